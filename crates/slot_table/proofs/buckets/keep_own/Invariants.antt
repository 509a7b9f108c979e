use Rattle.std.proofs.Common.{take}
use Rattle.slot_table.specs.BySlot.{by_slot}
use Rattle.slot_table.specs.Turns.{IsSplit}
use Rattle.slot_table.proofs.buckets.keep_own.Given as goal

abbrev pub invariant-loop-slot : goal.invariant-loop-slot
invariant-loop-slot l = IsSplit (take l.old (by_slot l.initial.buckets)) l.slots l.slot (by_slot l.buckets)
