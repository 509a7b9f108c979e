use Rattle.write_cache.proofs.Order.{last_state, other_states, order_kept, distinct_kept}
use Rattle.write_cache.proofs.laws.a_key_keeps_its_place_and_has_its_last_state.Goals as goal

pub returns-clause-last : goal.returns-clause-last
returns-clause-last c = last_state

pub returns-clause-others : goal.returns-clause-others
returns-clause-others c = other_states

pub returns-clause-order : goal.returns-clause-order
returns-clause-order c = order_kept

pub returns-clause-distinct : goal.returns-clause-distinct
returns-clause-distinct c = distinct_kept
