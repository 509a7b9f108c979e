use Rattle.std.proofs.Common.{◌≡◌, take}
use Rattle.slot_table.specs.BySlot.{by_slot}
use Rattle.slot_table.specs.Turns.{with_each}
use Rattle.slot_table.proofs.buckets.push_each.Given as goal

abbrev pub invariant-loop-place : goal.invariant-loop-place
invariant-loop-place l = by_slot l.buckets ≡ with_each (by_slot l.initial.buckets) (take l.place l.entries)
