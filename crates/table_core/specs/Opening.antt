-- The blocks of a file come into a book, one after the other. This project's own.
use Rattle.std.specs.Prelude.{◌≡◌, ℕ, ◌*◌, ◌&&◌, Bool, nat_le, if◌then◌else◌, List, []}
use Rattle.space_model.specs.Sizes.{segment_units}
use Rattle.space_model.specs.Apart.{In, Pairs, SameMembers, IsRun}
use Rattle.file_model.specs.declared.entry.Entry.{Entry}
use Rattle.buddy_space.specs.SpaceState.{SpaceState, largest_exp, is_free_run, taking}
use Rattle.slot_table.specs.BySlot.{Slot, BySlot, by_slot, entries_in, with_entry}
use Rattle.book_model.specs.Book.{entry_run, entry_runs, MeetsNot}

-- runs of blocks that lie in so many segments and do not meet
pub record AreBlocks (segments : ℕ) (entries : List Entry) : Type 0 where
  pub runs : (e : Entry) → In e entries → IsRun largest_exp (segment_units * segments) (entry_run e)
  pub apart : Pairs MeetsNot entries

-- whether the run of an entry can be claimed
abbrev pub can_enter : SpaceState → Entry → Bool
can_enter s e = nat_le e.exp largest_exp && is_free_run s (entry_run e)

abbrev pub entered_runs : SpaceState → Entry → SpaceState
entered_runs s e = if can_enter s e then taking s (entry_run e) else s

abbrev pub entered_entries : SpaceState → Entry → BySlot → BySlot
entered_entries s e b = if can_enter s e then with_entry b e else b

-- The runs that are taken are those of the entries so far, and of blocks that do not meet each one is there.
pub record HasEntered (segments : ℕ) (done : List Entry) (s : SpaceState) (slots : List Slot) : Type 0 where
  pub taken : SameMembers s.taken (entry_runs (entries_in (by_slot slots)))
  pub deferred : s.deferred ≡ []
  pub segments_are : s.segments ≡ segments
  pub all : AreBlocks segments done → SameMembers (entries_in (by_slot slots)) done
