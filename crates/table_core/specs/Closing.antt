-- A table's file when the table is closed. This project's own.
use Rattle.std.specs.Prelude.{◌≡◌, ℕ, true, List, None, Ok}
use Rattle.term_model.specs.TermValue.{TermValue}
use Rattle.dets_term.specs.IsTerm.{IsTerm}
use Rattle.table_model.specs.Table.{Table, objects_of}
use Rattle.space_model.specs.Apart.{SameMembers}
use Rattle.space_model.specs.Ledger.{Ledger, flush}
use Rattle.file_model.specs.declared.head.Head.{Head}
use Rattle.file_model.specs.declared.head.FileState.TheVariants.{Closed}
use Rattle.file_model.specs.Header.{head_of, segments_of}
use Rattle.file_model.specs.View.{view_of}
use Rattle.file_model.specs.Fit.{has_segments, is_sound, IsSound}
use Rattle.book_model.specs.Book.{Book}
use Rattle.book_model.specs.OfFile.{standing_of}
use Rattle.book_model.specs.LedgerOfFile.{HasLedger}
use Rattle.store_model.specs.Stores.{table_with, Stores}

-- a header that is closed and names no index
abbrev pub closed_head : Head → Head
closed_head h = record h { state = Closed; index = None }

-- The header is closed, the file is sound, and all else shows what it showed.
pub record IsClosed (h : Head) (old new : List ℕ) : Type 0 where
  pub read : head_of new ≡ Ok (closed_head h)
  pub sound : is_sound (closed_head h) new ≡ true
  pub whole : has_segments (closed_head h) new ≡ true
  pub open_units : (view_of (closed_head h) new).open_units ≡ (view_of h old).open_units

-- a closed and sound file with this table
pub record IsClosedWith (t : Table) (file : List ℕ) : Type 0 where
  pub head : Head
  pub read : head_of file ≡ Ok head
  pub closed : head.state ≡ Closed
  pub kind : head.kind ≡ t.kind
  pub keypos : head.keypos ≡ t.keypos
  pub sound : IsSound file
  pub keys : (k : TermValue) → IsTerm k → objects_of (table_with head file) k ≡ objects_of t k

-- whatever table the old file and its book hold, the new file is closed with it
abbrev pub ClosesWith : Book → (old new : List ℕ) → Type 0
ClosesWith b old new = (t : Table) → Stores old b t → IsClosedWith t new

-- the numbers and the blocks of a file are those of a ledger in which nothing is pending
pub record HasKept (l : Ledger) (file : List ℕ) : Type 0 where
  pub head : Head
  pub read : head_of file ≡ Ok head
  pub max : head.max_segments ≡ l.max
  pub segments : segments_of head file ≡ l.segments
  pub standing : SameMembers l.standing (standing_of (view_of head file))

-- whatever ledger the old file and its book have, it is flushed to the new file
abbrev pub KeepsLedger : Book → (old new : List ℕ) → Type 0
KeepsLedger b old new = (l : Ledger) → HasLedger old b l → HasKept (flush l) new
