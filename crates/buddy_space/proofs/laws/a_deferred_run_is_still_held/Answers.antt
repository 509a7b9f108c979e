use Rattle.buddy_space.proofs.States.{held_after_deferring, free_after_deferring, place_after_deferring}
use Rattle.buddy_space.proofs.laws.a_deferred_run_is_still_held.Goals as goal

pub returns-clause-held : goal.returns-clause-held
returns-clause-held c = held_after_deferring

pub returns-clause-free : goal.returns-clause-free
returns-clause-free c = free_after_deferring

pub returns-clause-places : goal.returns-clause-places
returns-clause-places c = place_after_deferring
