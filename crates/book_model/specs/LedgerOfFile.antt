-- The ledger of a file. This project's own.
use Rattle.std.specs.Prelude.{◌≡◌, ℕ, List}
use Rattle.space_model.specs.Apart.{SameMembers}
use Rattle.space_model.specs.Ledger.{Ledger}
use Rattle.file_model.specs.View.{view_of}
use Rattle.book_model.specs.Book.{Book}
use Rattle.book_model.specs.LedgerOf.{ledger_of}
use Rattle.book_model.specs.OfFile.{standing_of}

-- A ledger of a book that is that of a file: its standing keys are those of the file with their runs, in whatever order.
pub record HasLedger (file : List ℕ) (b : Book) (l : Ledger) : Type 0 where
  pub of_book : l ≡ ledger_of l.standing b
  pub standing : SameMembers l.standing (standing_of (view_of b.place.head file))

-- the header counts all segments
abbrev pub all_filed : Ledger → Ledger
all_filed l = record l { filed = l.segments }
