-- The blocks so far were entered.
use Rattle.std.proofs.Common.{◌≡◌, ℕ, List, length, take}
use Rattle.file_model.specs.declared.entry.Entry.{Entry}
use Rattle.buddy_space.specs.SpaceState.{SpaceState}
use Rattle.slot_table.specs.BySlot.{Slot}
use Rattle.table_core.specs.Opening.{HasEntered}
use Rattle.table_core.proofs.opening.enter_blocks.Given as goal

pub record Goes (entries : List Entry) (index : ℕ) (old s : SpaceState) (first slots : List Slot) : Type 0 where
  pub entered : HasEntered s.segments (take index entries) s slots
  pub segments_are : s.segments ≡ old.segments
  pub slots_are : length slots ≡ length first

abbrev pub invariant-loop-place : goal.invariant-loop-place
invariant-loop-place l = Goes l.entries l.place l.fn.space l.space l.fn.directory l.directory
