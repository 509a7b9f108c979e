use Rattle.std.proofs.Common.{◌≡◌, [], replicate}
use Rattle.slot_table.specs.BySlot.{by_slot}
use Rattle.slot_table.proofs.buckets.empty.Given as goal

abbrev pub invariant-loop-slot : goal.invariant-loop-slot
invariant-loop-slot l = by_slot l.buckets.items ≡ replicate l._slot []
