use Rattle.file_model.proofs.NoRejects.{free_meets_none, free_is_shut}
use Rattle.file_model.proofs.laws.a_free_run_meets_no_block_and_has_no_open_gate.Goals as goal

pub returns-clause-meets_none : goal.returns-clause-meets_none
returns-clause-meets_none c = free_meets_none

pub returns-clause-shut : goal.returns-clause-shut
returns-clause-shut c = free_is_shut
