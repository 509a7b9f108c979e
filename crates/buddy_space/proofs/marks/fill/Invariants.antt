use Rattle.std.proofs.Common.{◌≡◌, ◌≤◌, ◌<◌, ◌⊎◌, ℕ}
use Rattle.buddy_space.specs.Marks.{mark_at}
use Rattle.buddy_space.proofs.marks.fill.Given as goal

abbrev pub invariant-loop-unit : goal.invariant-loop-unit
invariant-loop-unit l = record {
  inside : (u : ℕ) → l.fn.run.unit ≤ u → u < l.unit → mark_at l.marks u ≡ l.mark;
  outside : (u : ℕ) → (u < l.fn.run.unit) ⊎ (l.unit ≤ u) → mark_at l.marks u ≡ mark_at l.initial.marks u;
}
