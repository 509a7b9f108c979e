use Rattle.std.proofs.Common.{map, take}
use Rattle.buddy_space.specs.Marks.{run_of, IsReleased}
use Rattle.buddy_space.proofs.marks.release.Given as goal

abbrev pub invariant-loop-run : goal.invariant-loop-run
invariant-loop-run l = IsReleased l.initial.marks l.marks (map run_of (take l.run-index l.runs))
