use Rattle.book_model.proofs.LedgerMoves.{planned_stands}
use Rattle.book_model.proofs.ledger_laws.a_command_leaves_what_stands.Goals as goal

pub returns : goal.returns
returns c = planned_stands c.places_and_states.ensures
