use Rattle.book_model.proofs.FileLedger.{file_ledger, ledger_stands, alike_has}
use Rattle.book_model.proofs.ledger_laws.a_book_of_a_file_has_its_ledger.Goals as goal

pub returns-clause-own : goal.returns-clause-own
returns-clause-own c = file_ledger

pub returns-clause-stands : goal.returns-clause-stands
returns-clause-stands c = ledger_stands

pub returns-clause-alike : goal.returns-clause-alike
returns-clause-alike c = alike_has
