use Rattle.std.proofs.Common.{◌≡◌, take, filter}
use Rattle.slot_table.specs.BySlot.{stands_in}
use Rattle.slot_table.proofs.bucket.Bucket.part.Given as goal

abbrev pub invariant-loop-entry : goal.invariant-loop-entry
invariant-loop-entry l = l.bucket.entries ≡ filter (stands_in l.slots l.slot) (take l.entry-index l.entry-items)
