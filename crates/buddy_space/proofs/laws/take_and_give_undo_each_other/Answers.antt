use Rattle.buddy_space.proofs.States.{given_after_taking, taken_after_giving}
use Rattle.buddy_space.proofs.laws.take_and_give_undo_each_other.Goals as goal

pub returns-clause-give : goal.returns-clause-give
returns-clause-give c = given_after_taking

pub returns-clause-take : goal.returns-clause-take
returns-clause-take c = taken_after_giving
