use Rattle.file_model.proofs.HeaderBack.{header_back}
use Rattle.file_model.proofs.laws.a_header_that_was_written_is_read.Goals as goal

pub returns : goal.returns
returns c = header_back
