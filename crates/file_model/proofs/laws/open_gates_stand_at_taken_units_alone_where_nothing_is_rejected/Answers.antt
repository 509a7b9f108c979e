use Rattle.file_model.proofs.NoRejects.{from_no_rejects, to_no_rejects}
use Rattle.file_model.proofs.laws.open_gates_stand_at_taken_units_alone_where_nothing_is_rejected.Goals as goal

pub returns-clause-none : goal.returns-clause-none
returns-clause-none c = from_no_rejects

pub returns-clause-only : goal.returns-clause-only
returns-clause-only c = to_no_rejects
