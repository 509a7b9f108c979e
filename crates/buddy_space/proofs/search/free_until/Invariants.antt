use Rattle.std.proofs.Common.{◌≡◌, ◌≤◌, ◌<◌, ℕ}
use Rattle.buddy_space.specs.Marks.{mark_at}
use Rattle.buddy_space.specs.declared.marks.Mark.TheVariants.{Free}
use Rattle.buddy_space.proofs.search.free_until.Given as goal

abbrev pub invariant-loop-unit : goal.invariant-loop-unit
invariant-loop-unit l = (u : ℕ) → l.fn.first ≤ u → u < l.unit → mark_at l.marks u ≡ Free
