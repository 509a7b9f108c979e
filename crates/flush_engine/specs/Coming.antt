-- The changes of a command whose new blocks have their places come into the book, one behind the other, and how far that has
-- come. This project's own.
use Rattle.std.specs.Prelude.{◌≡◌, ◌≤◌, ℕ, List, [], ◌∷◌, length, Ok}
use Rattle.space_model.specs.Sizes.{segment_units}
use Rattle.space_model.specs.Apart.{SameMembers}
use Rattle.file_model.specs.declared.entry.Entry.{Entry}
use Rattle.write_cache.specs.Waiting.{Waiting}
use Rattle.buddy_space.specs.SpaceState.{IsParted, held as space_held}
use Rattle.slot_table.specs.BySlot.{by_slot, entries_in, HasRoomFor, IsDirectory}
use Rattle.book_model.specs.declared.change.Change.{Change}
use Rattle.book_model.specs.Book.{Book, held as book_held, IsWellFormed}
use Rattle.book_model.specs.Planning.{AreChanges, serve_all}
use Rattle.flush_engine.specs.declared.book.Book.{Book as KeptBook}
use Rattle.flush_engine.specs.Ahead.{HaveUnits}
use Rattle.flush_engine.specs.Entering.{next_entry, in_front}

-- the entries of the new blocks of changes, which begin at these units
abbrev pub new_entries : List Change → List ℕ → List Entry
new_entries [] units = []
new_entries (c ∷ cs) [] = []
new_entries (c ∷ cs) (u ∷ us) = in_front (next_entry c.hash u c.next) (new_entries cs us)

-- The book is this one up to here, and serves the changes that are left until it is the new one. What is kept in memory is
-- the same but for its runs, which are held as they will be then; and there is room for what comes.
pub record Coming (before : Waiting) (new mid : Book) (changes : List Change) (units : List ℕ) (now : KeptBook) : Type 0 where
  pub formed : IsWellFormed segment_units mid
  pub are : AreChanges mid changes
  pub served : serve_all segment_units mid changes ≡ Ok new
  pub units_are : HaveUnits before new.cache changes units
  pub place : now.place ≡ mid.place
  pub segments : now.space.segments ≡ new.space.segments
  pub held : SameMembers (space_held now.space) (book_held new.space)
  pub deferred : SameMembers now.space.deferred mid.space.deferred
  pub parted : IsParted now.space
  pub spare : length changes ≤ now.space.spare
  pub directory : SameMembers (entries_in (by_slot now.directory)) mid.directory
  pub slots : IsDirectory (by_slot now.directory)
  pub room : HasRoomFor now.directory (new_entries changes units)
  pub cache : now.cache ≡ mid.cache
