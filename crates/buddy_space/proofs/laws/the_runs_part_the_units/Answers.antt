use Rattle.buddy_space.proofs.Parted.{parted_with_segment, parted_giving, parted_deferring, parted_settling, parted_taking}
use Rattle.buddy_space.proofs.States.{parted_without, free_is_run, free_is_apart}
use Rattle.buddy_space.proofs.laws.the_runs_part_the_units.Goals as goal

pub returns-clause-none : goal.returns-clause-none
returns-clause-none c = parted_without

pub returns-clause-segment : goal.returns-clause-segment
returns-clause-segment c = parted_with_segment

pub returns-clause-take : goal.returns-clause-take
returns-clause-take c = λ s r parted fits free. parted_taking s r parted (free_is_run s r fits free) (λ q a. free_is_apart s r q free a)

pub returns-clause-give : goal.returns-clause-give
returns-clause-give c = parted_giving

pub returns-clause-defer : goal.returns-clause-defer
returns-clause-defer c = parted_deferring

pub returns-clause-settle : goal.returns-clause-settle
returns-clause-settle c = parted_settling
