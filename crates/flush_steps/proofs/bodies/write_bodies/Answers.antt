use Rattle.book_model.specs.Flushing.{bodies_of}
use Rattle.flush_steps.proofs.Begin.{bodies_begin}
use Rattle.flush_steps.proofs.bodies.write_bodies.Goals as goal

pub write_some_and_sync-requires-clause-inside : goal.write_some_and_sync-requires-clause-inside
write_some_and_sync-requires-clause-inside g c f told = bodies_begin (bodies_of c.args.cache.now) f (c.requires.whole f told)
