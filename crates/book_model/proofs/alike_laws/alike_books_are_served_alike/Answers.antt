use Rattle.book_model.proofs.Alike.{serve_alike, all_alike, planned_alike}
use Rattle.book_model.proofs.alike_laws.alike_books_are_served_alike.Goals as goal

pub returns-clause-key : goal.returns-clause-key
returns-clause-key c = λ n a b change alike. serve_alike c.the_ledger_below.ensures n a b change alike

pub returns-clause-keys : goal.returns-clause-keys
returns-clause-keys c = all_alike c.the_ledger_below.ensures

pub returns-clause-command : goal.returns-clause-command
returns-clause-command c = planned_alike c.the_ledger_below.ensures
