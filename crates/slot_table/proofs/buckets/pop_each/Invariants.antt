use Rattle.std.proofs.Common.{take}
use Rattle.slot_table.specs.Turns.{IsPopped}
use Rattle.slot_table.proofs.buckets.pop_each.Given as goal

abbrev pub invariant-loop-entry : goal.invariant-loop-entry
invariant-loop-entry l = IsPopped l.initial.buckets l.buckets (take l.entry-index l.entries)
