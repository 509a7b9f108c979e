use Rattle.key_block.proofs.Unpacked.{objects_found, no_block}
use Rattle.key_block.proofs.laws.what_is_refused_is_no_block.Goals as goal

pub returns-clause-objects : goal.returns-clause-objects
returns-clause-objects c = objects_found

pub returns-clause-refused : goal.returns-clause-refused
returns-clause-refused c = no_block
