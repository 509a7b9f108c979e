use Rattle.file_model.specs.Layout.{closed_byte}
use Rattle.book_model.specs.Flushing.{old_units}
use Rattle.flush_steps.proofs.Begin.{gates_begin}
use Rattle.flush_steps.proofs.gates.close_gates.Goals as goal

pub write_some_and_sync-requires-clause-inside : goal.write_some_and_sync-requires-clause-inside
write_some_and_sync-requires-clause-inside g c f told = gates_begin closed_byte (old_units c.args.cache.now) f (c.requires.whole f told)
