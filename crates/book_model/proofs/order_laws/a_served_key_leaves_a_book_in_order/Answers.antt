use Rattle.book_model.proofs.Served.{serve_formed}
use Rattle.book_model.proofs.Commands.{carries}
use Rattle.book_model.proofs.order_laws.a_served_key_leaves_a_book_in_order.Goals as goal

pub returns-clause-order : goal.returns-clause-order
returns-clause-order c = λ n b new change formed can is. serve_formed c.places_and_states.ensures n b change formed can new is

pub returns-clause-others : goal.returns-clause-others
returns-clause-others c = λ n b new change d formed can other keys olds is. carries c.places_and_states.ensures n b change formed can new d other keys olds is
