use Rattle.buddy_space.proofs.States.{settled_is_free, free_after_settling}
use Rattle.buddy_space.proofs.laws.all_deferred_runs_are_freed_at_once.Goals as goal

pub returns-clause-deferred : goal.returns-clause-deferred
returns-clause-deferred c = settled_is_free

pub returns-clause-others : goal.returns-clause-others
returns-clause-others c = free_after_settling
