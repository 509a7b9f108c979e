use Rattle.std.proofs.Common.{◌≡◌, ◌-◌, cond, drop}
use Rattle.std.specs.Ordering.{is_lt, is_le}
use Rattle.file_model.specs.Block.{ascend_by}
use Rattle.key_block.proofs.judging.ascend.Given as goal

-- the last element that was looked at and what is left decide
abbrev pub invariant-loop-place : goal.invariant-loop-place
invariant-loop-place l =
    ascend_by (cond l.strictly is_lt is_le) (drop (l.place - 1) l.objects) ≡ ascend_by (cond l.strictly is_lt is_le) l.objects
