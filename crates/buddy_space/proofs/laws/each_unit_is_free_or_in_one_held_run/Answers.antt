use Rattle.buddy_space.proofs.States.{unit_is_free_or_held, free_is_not_held, held_once}
use Rattle.buddy_space.proofs.laws.each_unit_is_free_or_in_one_held_run.Goals as goal

pub returns-clause-covered : goal.returns-clause-covered
returns-clause-covered c = unit_is_free_or_held

pub returns-clause-not_both : goal.returns-clause-not_both
returns-clause-not_both c = free_is_not_held

pub returns-clause-once : goal.returns-clause-once
returns-clause-once c = held_once
