use Rattle.book_model.proofs.LedgerMoves.{held_same}
use Rattle.book_model.proofs.ledger_laws.the_held_runs_are_those_of_the_ledger.Goals as goal

pub returns : goal.returns
returns c = λ n standing b formed stands. held_same n standing b (record { formed = formed; stands = stands })
