use Rattle.write_cache.proofs.Order.{state_at, place_of}
use Rattle.write_cache.proofs.laws.each_place_has_a_key_with_its_state.Goals as goal

pub returns-clause-at : goal.returns-clause-at
returns-clause-at c = state_at

pub returns-clause-found : goal.returns-clause-found
returns-clause-found c = λ w key s has. let p = place_of w key s has in (p.0, p.1.0, p.1.1)
