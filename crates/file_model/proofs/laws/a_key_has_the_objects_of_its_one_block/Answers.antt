use Rattle.file_model.proofs.OldOrNew.{only_block, no_block, other_gates}
use Rattle.file_model.proofs.laws.a_key_has_the_objects_of_its_one_block.Goals as goal

pub returns-clause-one : goal.returns-clause-one
returns-clause-one c = only_block

pub returns-clause-none : goal.returns-clause-none
returns-clause-none c = no_block

pub returns-clause-others : goal.returns-clause-others
returns-clause-others c = other_gates
