use Rattle.buddy_space.proofs.States.{given_is_free, free_before_giving, in_giving, giving_in}
use Rattle.buddy_space.proofs.laws.a_run_that_was_given_back_is_free.Goals as goal

pub returns-clause-free : goal.returns-clause-free
returns-clause-free c = given_is_free

pub returns-clause-others : goal.returns-clause-others
returns-clause-others c = free_before_giving

pub returns-clause-taken : goal.returns-clause-taken
returns-clause-taken c = λ s r q. (in_giving s r q, λ h. giving_in s r q h.0 h.1)
