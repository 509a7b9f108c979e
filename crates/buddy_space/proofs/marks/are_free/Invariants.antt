use Rattle.std.proofs.Common.{◌≡◌, ◌≤◌, ◌<◌, ℕ}
use Rattle.buddy_space.specs.Marks.{mark_at}
use Rattle.buddy_space.specs.declared.marks.Mark.TheVariants.{Free}
use Rattle.buddy_space.proofs.marks.are_free.Given as goal

abbrev pub invariant-loop-unit : goal.invariant-loop-unit
invariant-loop-unit l = (u : ℕ) → l.fn.run.unit ≤ u → u < l.unit → mark_at l.marks u ≡ Free
