-- What a flush leaves of the file of a book. This project's own.
use Rattle.std.specs.Prelude.{ℕ, List}
use Rattle.space_model.specs.Runs.{Run}
use Rattle.space_model.specs.Apart.{In}
use Rattle.space_model.specs.Ledger.{Ledger, flush}
use Rattle.file_model.specs.declared.head.Located.{Located}
use Rattle.file_model.specs.View.{view_of}
use Rattle.file_model.specs.Free.{IsFreeIn}
use Rattle.buddy_space.specs.SpaceState.{SpaceState}
use Rattle.book_model.specs.Book.{Book}
use Rattle.book_model.specs.OfFile.{IsOf, placed_at}
use Rattle.book_model.specs.LedgerOfFile.{HasLedger}
use Rattle.book_model.specs.Flushing.{settled, table_with_head, HaveNew}

-- Each key has its new objects in the table of the new file, which is seen with this header.
abbrev pub HasNewObjects : Book → Located → (old new : List ℕ) → Type 0
HasNewObjects b place old new = HaveNew b (table_with_head b.place.head old) (table_with_head place.head new)

-- Each ledger that the old book has over the old file is flushed: the new book has it then over the new file.
abbrev pub FlushesLedger : (before after : Book) → (old new : List ℕ) → Type 0
FlushesLedger before after old new = (l : Ledger) → HasLedger old before l → HasLedger new after (flush l)

-- All is written: the book, with this header and nothing that waits, is that of the file, each key has its new objects, and
-- the ledger is flushed.
pub record IsWritten (b : Book) (place : Located) (old new : List ℕ) : Type 0 where
  pub of_file : IsOf new (settled (placed_at b place))
  pub objects : HasNewObjects b place old new
  pub ledger : FlushesLedger b (settled (placed_at b place)) old new

-- The runs that were deferred meet no block of the file, and no gate in them is open.
abbrev pub HasFreed : SpaceState → Located → List ℕ → Type 0
HasFreed s place file = (r : Run) → In r s.deferred → IsFreeIn (view_of place.head file) r.unit r.exp
