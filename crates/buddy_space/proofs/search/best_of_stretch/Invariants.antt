use Rattle.std.proofs.Common.{◌≤◌, ◌-◌, List}
use Rattle.buddy_space.specs.declared.marks.Mark.{Mark}
use Rattle.buddy_space.specs.Pieces.{IsStretch}
use Rattle.buddy_space.proofs.Stretches.{IsSearched}
use Rattle.buddy_space.proofs.search.best_of_stretch.Given as goal

abbrev pub invariant-loop-unit : goal.invariant-loop-unit
invariant-loop-unit l = record {
  low : l.fn.first ≤ l.unit;
  high : l.unit ≤ l.end;
  searched : (marks : List Mark) → IsStretch marks l.fn.first l.end → IsSearched marks l.wanted l.fn.first l.unit l.best;
}

abbrev pub decreases-loop-unit : goal.decreases-loop-unit
decreases-loop-unit l = l.end - l.unit
