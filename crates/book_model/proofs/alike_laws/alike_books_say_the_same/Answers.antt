use Rattle.book_model.proofs.Alike.{alike_formed, alike_ledger, alike_standing}
use Rattle.book_model.proofs.OfFile.{alike_of}
use Rattle.book_model.proofs.alike_laws.alike_books_say_the_same.Goals as goal

pub returns-clause-order : goal.returns-clause-order
returns-clause-order c = λ n a b alike formed parted units. alike_formed a b alike n formed parted units

pub returns-clause-ledger : goal.returns-clause-ledger
returns-clause-ledger c = λ standing a b alike. alike_ledger a b alike standing

pub returns-clause-stands : goal.returns-clause-stands
returns-clause-stands c = λ standing a b alike stands. alike_standing a b alike standing stands

pub returns-clause-of_file : goal.returns-clause-of_file
returns-clause-of_file c = alike_of
