use Rattle.std.proofs.Common.{◌-◌, length}
use Rattle.buddy_space.proofs.Stretches.{IsFound}
use Rattle.buddy_space.proofs.search.best_of_all.Given as goal

abbrev pub invariant-loop-unit : goal.invariant-loop-unit
invariant-loop-unit l = IsFound l.marks l.wanted l.unit l.best

abbrev pub decreases-loop-unit : goal.decreases-loop-unit
decreases-loop-unit l = length l.marks - l.unit
