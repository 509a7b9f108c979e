-- The text has the characters that were yielded so far.
use Rattle.std.proofs.Common.{◌≡◌}
use Rattle.dets_tool.proofs.job.text_of.Given as goal

abbrev pub invariant-loop-item : goal.invariant-loop-item
invariant-loop-item l = l.text ≡ l.yielded
