use Rattle.std.proofs.Common.{◌≡◌, ◌<◌, length, max}
use Rattle.space_model.specs.Apart.{In}
use Rattle.file_model.specs.declared.entry.Entry.{Entry}
use Rattle.slot_table.specs.BySlot.{by_slot, entries_in}
use Rattle.slot_table.proofs.tests.filled.Given as goal

abbrev pub invariant-loop-number : goal.invariant-loop-number
invariant-loop-number l = record {
  slots : length l.directory ≡ max l.number 256;
  keys : length (entries_in (by_slot l.directory)) ≡ l.number;
  units : (e : Entry) → In e (entries_in (by_slot l.directory)) → e.unit < l.number;
}
