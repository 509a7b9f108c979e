use Rattle.book_model.proofs.Commands.{planned_formed}
use Rattle.book_model.proofs.order_laws.a_command_leaves_a_book_in_order.Goals as goal

pub returns : goal.returns
returns c = planned_formed c.places_and_states.ensures
