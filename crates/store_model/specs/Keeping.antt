-- A file that changes without a change of its table, as at an opening and at a closing. This project's own.
use Rattle.std.specs.Prelude.{◌≡◌, ℕ, List, Ok}
use Rattle.file_model.specs.declared.head.Head.{Head}
use Rattle.file_model.specs.Header.{head_of}
use Rattle.file_model.specs.Fit.{IsFit, IsSound}
use Rattle.store_model.specs.Stores.{table_with}

-- What a stop may leave of a file with this header then: an image that is fit, and sound where the file was, with the same
-- kind, keypos and table.
pub record Keeps (h : Head) (file image : List ℕ) : Type 0 where
  pub head : Head
  pub read : head_of image ≡ Ok head
  pub kind : head.kind ≡ h.kind
  pub keypos : head.keypos ≡ h.keypos
  pub table : table_with head image ≡ table_with h file
  pub fit : IsFit image
  pub sound : IsSound file → IsSound image
