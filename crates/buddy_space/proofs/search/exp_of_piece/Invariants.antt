use Rattle.std.proofs.Common.{◌≡◌, ◌≤◌, ◌+◌, ◌-◌, ◌%◌, ◌^◌}
use Rattle.buddy_space.proofs.search.exp_of_piece.Given as goal

abbrev pub invariant-loop-exp : goal.invariant-loop-exp
invariant-loop-exp l = record { most : l.exp ≤ 12; aligned : l.unit % 2 ^ l.exp ≡ 0; ends : l.unit + 2 ^ l.exp ≤ l.end }

abbrev pub decreases-loop-exp : goal.decreases-loop-exp
decreases-loop-exp l = 12 - l.exp
