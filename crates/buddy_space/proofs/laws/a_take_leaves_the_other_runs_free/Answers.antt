use Rattle.buddy_space.proofs.States.{free_after_taking, in_taking, taking_in}
use Rattle.buddy_space.proofs.laws.a_take_leaves_the_other_runs_free.Goals as goal

pub returns-clause-free : goal.returns-clause-free
returns-clause-free c = free_after_taking

pub returns-clause-taken : goal.returns-clause-taken
returns-clause-taken c = λ s r q. (in_taking s r q, taking_in s r q)
