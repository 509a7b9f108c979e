use Rattle.book_model.proofs.LedgerMoves.{serve_ledger, all_ledger, planned_ledger}
use Rattle.book_model.proofs.ledger_laws.a_command_moves_the_ledger.Goals as goal

pub returns-clause-key : goal.returns-clause-key
returns-clause-key c = λ n standing b change formed stands can. serve_ledger c.places_and_states.ensures c.the_ledger_below.ensures n standing b change (record { formed = formed; stands = stands }) can

pub returns-clause-keys : goal.returns-clause-keys
returns-clause-keys c = λ n standing changes b formed stands are.
    all_ledger c.places_and_states.ensures c.the_ledger_below.ensures n standing changes b (record { formed = formed; stands = stands }) are.each are.keys are.entries

pub returns-clause-command : goal.returns-clause-command
returns-clause-command c = λ n standing changes b formed stands are.
    planned_ledger c.places_and_states.ensures c.the_ledger_below.ensures n standing changes b (record { formed = formed; stands = stands }) are
