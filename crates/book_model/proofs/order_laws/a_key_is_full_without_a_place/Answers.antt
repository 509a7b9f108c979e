use Rattle.book_model.proofs.Served.{serve_full}
use Rattle.book_model.proofs.order_laws.a_key_is_full_without_a_place.Goals as goal

pub returns : goal.returns
returns c = λ n b change exp formed can is. serve_full c.places_and_states.ensures n b change formed can exp is
