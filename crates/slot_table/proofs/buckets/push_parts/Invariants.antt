use Rattle.std.proofs.Common.{◌≡◌, ◌++◌, ◌-◌, take, vec_len}
use Rattle.slot_table.specs.BySlot.{by_slot}
use Rattle.slot_table.specs.Turns.{parts}
use Rattle.slot_table.proofs.buckets.push_parts.Given as goal

abbrev pub invariant-loop-slot : goal.invariant-loop-slot
invariant-loop-slot l = record {
  length : vec_len l.buckets ≡ l.slot;
  parts : by_slot l.buckets.items ≡ by_slot l.initial.buckets.items ++ parts (by_slot l.initial.buckets.items) l.slots (l.slot - l.old);
  front : take l.old l.buckets.items ≡ l.initial.buckets.items;
}
