use Rattle.book_model.proofs.Alike.{alike_self, alike_back, alike_through}
use Rattle.book_model.proofs.alike_laws.books_are_alike_both_ways.Goals as goal

pub returns-clause-self_alike : goal.returns-clause-self_alike
returns-clause-self_alike c = alike_self

pub returns-clause-back : goal.returns-clause-back
returns-clause-back c = alike_back

pub returns-clause-through : goal.returns-clause-through
returns-clause-through c = alike_through
