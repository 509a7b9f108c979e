use Rattle.space_model.proofs.Serving.{grows, full_at_last}
use Rattle.space_model.proofs.ledger_laws.segments_are_added_as_long_as_there_is_no_place.Goals as goal

pub returns-clause-first : goal.returns-clause-first
returns-clause-first c = grows

pub returns-clause-none : goal.returns-clause-none
returns-clause-none c = full_at_last
