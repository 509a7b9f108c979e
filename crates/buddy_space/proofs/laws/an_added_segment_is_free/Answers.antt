use Rattle.buddy_space.proofs.States.{added_is_free, free_after_adding}
use Rattle.buddy_space.proofs.laws.an_added_segment_is_free.Goals as goal

pub returns-clause-added : goal.returns-clause-added
returns-clause-added c = added_is_free

pub returns-clause-others : goal.returns-clause-others
returns-clause-others c = free_after_adding
