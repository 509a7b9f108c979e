use Rattle.file_model.proofs.WrittenBlocks.{written_stands}
use Rattle.file_model.proofs.write_laws.a_block_that_was_written_stands.Goals as goal

pub returns : goal.returns
returns c = written_stands
