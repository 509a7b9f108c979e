use Rattle.file_model.proofs.Local.{stands_aligned, are_read}
use Rattle.file_model.proofs.laws.a_block_stands_as_it_is_read.Goals as goal

pub returns-clause-aligned : goal.returns-clause-aligned
returns-clause-aligned c = stands_aligned

pub returns-clause-read : goal.returns-clause-read
returns-clause-read c = are_read
