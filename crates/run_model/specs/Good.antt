-- What a stop may leave of a table's file: each key has the objects that it had at one moment. This project's own.
use Rattle.std.specs.Prelude.{◌≡◌, ◌≤◌, ℕ, ◌+◌, min, List, length, Option, Some, None, Ok}
use Rattle.term_model.specs.TermValue.{TermValue}
use Rattle.table_model.specs.Table.{Table, objects_of}
use Rattle.file_model.specs.declared.head.Head.{Head}
use Rattle.file_model.specs.Header.{head_of}
use Rattle.file_model.specs.View.{view_of}
use Rattle.file_model.specs.Taken.{table_of}
use Rattle.file_model.specs.Fit.{IsFit}
use Rattle.run_model.specs.State.{table_in, objects_in}
use Rattle.run_model.specs.History.{History, state_at, last_sync}

-- A key has in a table the objects that it had at a moment from first to last.
pub record IsAt (h : History) (first last : ℕ) (table : Table) (key : TermValue) : Type 0 where
  pub moment : ℕ
  pub from : first ≤ moment
  pub up_to : moment ≤ last
  pub same : objects_of table key ≡ objects_in (state_at h moment) key

-- the kind and the keypos of a table, if there is one
abbrev pub HasShape : Option Table → Table → Type 0
HasShape None table = ⊥
HasShape (Some shape) table = (table.kind ≡ shape.kind) × (table.keypos ≡ shape.keypos)

-- A table may be found after so many replies: its kind and keypos are those of the history, and each key is at one
-- moment from the last sync point up to one command past the replies.
pub record MayBeFound (h : History) (replied : ℕ) (table : Table) : Type 0 where
  pub shape : HasShape (table_in (state_at h replied)) table
  pub keys : (key : TermValue) → IsAt h (last_sync h replied) (min (replied + 1) (length h.moments)) table key

-- An image of the file is good after so many replies: it is fit, and its table may be found.
pub record IsGood (h : History) (image : List ℕ) (replied : ℕ) : Type 0 where
  pub head : Head
  pub read : head_of image ≡ Ok head
  pub fit : IsFit image
  pub found : MayBeFound h replied (table_of (view_of head image))
