use Rattle.file_model.specs.Layout.{open_byte}
use Rattle.file_model.specs.Flush.{news}
use Rattle.book_model.specs.Flushing.{bodies_of}
use Rattle.flush_steps.proofs.Begin.{gates_begin}
use Rattle.flush_steps.proofs.gates.open_gates.Goals as goal

pub write_some_and_sync-requires-clause-inside : goal.write_some_and_sync-requires-clause-inside
write_some_and_sync-requires-clause-inside g c f told = gates_begin open_byte (news (bodies_of c.args.cache.now)) f (c.requires.whole f told)
