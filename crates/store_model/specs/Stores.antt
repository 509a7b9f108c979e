-- The table that a file and its book hold together, and what a stop leaves of it. This project's own.
use Rattle.std.specs.Prelude.{◌≡◌, ◌⊎◌, ℕ, List, [], Option, Some, None, Ok}
use Rattle.term_model.specs.TermValue.{TermValue}
use Rattle.dets_term.specs.IsTerm.{IsTerm}
use Rattle.table_model.specs.Table.{Table, objects_of}
use Rattle.etf_model.specs.Canonical.{spelled}
use Rattle.file_model.specs.declared.head.Head.{Head}
use Rattle.file_model.specs.declared.block.Packed.{Packed}
use Rattle.file_model.specs.Header.{head_of}
use Rattle.file_model.specs.View.{view_of}
use Rattle.file_model.specs.Taken.{table_of}
use Rattle.file_model.specs.Fit.{IsFit, IsSound}
use Rattle.write_cache.specs.declared.pending.Pending.{Pending}
use Rattle.write_cache.specs.Waiting.{state_of}
use Rattle.book_model.specs.Book.{Book}
use Rattle.book_model.specs.Planning.{IsBlockFor}
use Rattle.book_model.specs.OfFile.{IsOf}

-- the table of a file, seen with a header
abbrev pub table_with : Head → List ℕ → Table
table_with h file = table_of (view_of h file)

-- the objects of a new block of a key, none where it has no block
abbrev pub AreWaiting : Head → List ℕ → Option Packed → List TermValue → Type 0
AreWaiting h key None objects = objects ≡ []
AreWaiting h key (Some p) objects = (f : IsBlockFor h key p) → objects ≡ f.objects

-- what a key has that waits in this state, or does not: those of its new block, or what it has in the file
abbrev pub AreObjectsOf : Head → Table → TermValue → Option Pending → List TermValue → Type 0
AreObjectsOf h filed k None objects = objects ≡ objects_of filed k
AreObjectsOf h filed k (Some s) objects = AreWaiting h (spelled k) s.block objects

-- A file and its book hold this table, but for the order of its objects.
pub record Stores (file : List ℕ) (b : Book) (t : Table) : Type 0 where
  pub of_file : IsOf file b
  pub kind : t.kind ≡ b.place.head.kind
  pub keypos : t.keypos ≡ b.place.head.keypos
  pub keys : (k : TermValue) → IsTerm k → AreObjectsOf b.place.head (table_with b.place.head file) k (state_of b.cache (spelled k)) (objects_of t k)

-- What a stop may leave of a file while a table goes into it: an image of the same kind and keypos, which is fit, and sound
-- where the file was, and in which each key has what it had in the file or what it has in the table.
pub record IsBetween (file : List ℕ) (base t : Table) (image : List ℕ) : Type 0 where
  pub head : Head
  pub read : head_of image ≡ Ok head
  pub kind : head.kind ≡ t.kind
  pub keypos : head.keypos ≡ t.keypos
  pub fit : IsFit image
  pub sound : IsSound file → IsSound image
  pub keys : (k : TermValue) → IsTerm k
      → (objects_of (table_with head image) k ≡ objects_of base k) ⊎ (objects_of (table_with head image) k ≡ objects_of t k)
