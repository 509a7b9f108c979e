use Rattle.buddy_space.proofs.States.{place_is_free_run, no_free_run}
use Rattle.buddy_space.proofs.laws.a_place_is_free.Goals as goal

pub returns-clause-some : goal.returns-clause-some
returns-clause-some c = place_is_free_run

pub returns-clause-none : goal.returns-clause-none
returns-clause-none c = no_free_run
