-- When a book is that of a file. This project's own.
use Rattle.std.specs.Prelude.{◌≡◌, ◌≤◌, ◌<◌, ℕ, ◌*◌, true, false, List, [], map, Option, Some, None, Ok}
use Rattle.etf_model.specs.Canonical.{spelled}
use Rattle.space_model.specs.Runs.{Run, is_free}
use Rattle.space_model.specs.Apart.{In, Pairs, SameMembers}
use Rattle.space_model.specs.Ledger.{Standing}
use Rattle.file_model.specs.declared.block.Packed.{Packed}
use Rattle.file_model.specs.declared.entry.Entry.{Entry}
use Rattle.file_model.specs.declared.head.Located.{Located}
use Rattle.file_model.specs.Header.{units_per_segment, is_allowed, located, segments_of}
use Rattle.file_model.specs.Block.{Block}
use Rattle.file_model.specs.View.{Units, View, view_of}
use Rattle.file_model.specs.Taken.{taken, entry_of, entries}
use Rattle.file_model.specs.Fit.{has_segments, has_no_rejects}
use Rattle.file_model.specs.Free.{IsFreeIn}
use Rattle.write_cache.specs.declared.pending.Pending.{Pending}
use Rattle.write_cache.specs.Waiting.{state_of}
use Rattle.book_model.specs.declared.change.Change.{Change}
use Rattle.book_model.specs.Book.{held, Book, entry_run, entry_runs, OtherUnit, MeetsNot, pending_entries, olds_of, IsWellFormed}
use Rattle.book_model.specs.Planning.{IsBlockFor, AreChanges}
use Rattle.book_model.specs.LedgerOf.{filed_entries}

-- a taken block with this entry and this key
pub record HasBlock (v : View) (key : List ℕ) (e : Entry) : Type 0 where
  pub block : Block
  pub taken : In block (taken v)
  pub entry : entry_of block ≡ e
  pub spelled_is : spelled block.key ≡ key

-- the entry of the block that a key has in the file, none where it has no block
pub record IsOld (v : View) (key : List ℕ) (old : Option Entry) : Type 0 where
  pub some : (e : Entry) → old ≡ Some e → HasBlock v key e
  pub every : (t : Block) → In t (taken v) → spelled t.key ≡ key → old ≡ Some (entry_of t)

-- What a book has of what is seen of its file.
pub record Knows (v : View) (b : Book) : Type 0 where
  -- open gates stand at the units of taken blocks alone
  pub gates : has_no_rejects v ≡ true
  -- with the old entries in place of those of pending keys the directory lists exactly the taken blocks
  pub lists : SameMembers (filed_entries b) (entries v)
  -- each old entry is that of the block of its key
  pub olds : (e : List ℕ × Pending) → In e b.cache → IsOld v e.0 e.1.old
  -- each pending block is one of objects of its key
  pub packed : (e : List ℕ × Pending) (p : Packed) → In e b.cache → e.1.block ≡ Some p → IsBlockFor b.place.head e.0 p

-- A book that is in order is that of a file. What follows from this, and is asked for too, is IsBeside.
pub record IsOf (file : List ℕ) (b : Book) : Type 0 where
  -- the header is where it is read
  pub place : located file ≡ Ok b.place
  -- every segment of the header is whole
  pub whole : has_segments b.place.head file ≡ true
  pub knows : Knows (view_of b.place.head file) b
  pub order : IsWellFormed (units_per_segment b.place.head) b

-- ---- what follows

-- a pending run is taken, and meets no taken block and no open gate of the file
pub record IsPendingRun (v : View) (b : Book) (e : Entry) : Type 0 where
  pub taken : In (entry_run e) b.space.taken
  pub free : IsFreeIn v e.unit e.exp

pub record Follows (file : List ℕ) (b : Book) : Type 0 where
  pub runs : (e : Entry) → In e (pending_entries b.cache) → IsPendingRun (view_of b.place.head file) b e
  -- pending runs do not meet each other
  pub apart : Pairs MeetsNot (pending_entries b.cache)
  -- what a pending key had in the file is no longer in the directory
  pub gone : (e : Entry) → In e (olds_of b.cache) → In e b.directory → ⊥
  -- the space is that of the file, but for segments added at its end: it has those that count, and free runs meet no taken
  -- block and have no open gate
  pub segments : segments_of b.place.head file ≤ b.space.segments
  pub free : (r : Run) → is_free (units_per_segment b.place.head * b.space.segments) (held b.space) r ≡ true
      → IsFreeIn (view_of b.place.head file) r.unit r.exp

-- ---- changes of a book that is that of a file

-- the entry of each key that is not pending is that of its block in the file
pub record AreChangesOf (v : View) (b : Book) (changes : List Change) : Type 0 where
  pub are : AreChanges b changes
  pub olds : (c : Change) → In c changes → state_of b.cache c.key ≡ None → IsOld v c.key c.old

-- ---- files that show the same

-- the same objects stand at the same open units
pub record ShowsSame (old new : View) : Type 0 where
  pub kind : new.head.kind ≡ old.head.kind
  pub keypos : new.head.keypos ≡ old.head.keypos
  pub open_units : new.open_units ≡ old.open_units

-- More units, with closed gates, behind those that were there; what is behind closed gates may be anything.
pub record AddsClosed (old new : Units) : Type 0 where
  pub count : old.count ≤ new.count
  pub gates : (u : ℕ) → u < old.count → new.is_open u ≡ old.is_open u
  pub behind : (u : ℕ) → u < old.count → old.is_open u ≡ true → new.stands u ≡ old.stands u
  pub shut : (u : ℕ) → old.count ≤ u → u < new.count → new.is_open u ≡ false

-- a book with this header in place of its own
abbrev pub placed_at : Book → Located → Book
placed_at b place = record b { place = place }

-- A file that shows the same, with all its segments whole and a header that the book's space allows.
pub record MayBeOf (old new : List ℕ) (b : Book) (place : Located) : Type 0 where
  pub place_is : located new ≡ Ok place
  pub whole : has_segments place.head new ≡ true
  pub allowed : is_allowed place.head ≡ true
  pub at_least : place.head.segments ≤ b.space.segments
  pub at_most : b.space.segments ≤ place.head.max_segments
  pub same : ShowsSame (view_of b.place.head old) (view_of place.head new)

-- ---- a book that was just opened

-- the header, the taken blocks, their runs, and the segments that count; nothing waits
pub record IsOpened (file : List ℕ) (b : Book) : Type 0 where
  pub place : located file ≡ Ok b.place
  pub segments : b.space.segments ≡ b.place.head.segments
  pub taken : SameMembers b.space.taken (entry_runs b.directory)
  pub deferred : b.space.deferred ≡ []
  pub directory : SameMembers b.directory (entries (view_of b.place.head file))
  pub units : Pairs OtherUnit b.directory
  pub cache : b.cache ≡ []

-- the keys of a file with their blocks, as the ledger has them
abbrev pub standing_block : Block → Standing
standing_block t = record { key = spelled t.key; run = entry_run (entry_of t) }

abbrev pub standing_of : View → List Standing
standing_of v = map standing_block (taken v)
