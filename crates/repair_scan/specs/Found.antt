-- What a scan finds, and what closing the gates of rejects keeps. This project's own.
use Rattle.std.specs.Prelude.{◌≡◌, ℕ, List, map}
use Rattle.space_model.specs.Sizes.{segment_units}
use Rattle.file_model.specs.declared.head.Head.{Head}
use Rattle.file_model.specs.declared.reject.Reject.{Reject}
use Rattle.file_model.specs.Header.{located}
use Rattle.file_model.specs.View.{view_of}
use Rattle.file_model.specs.Taken.{taken}
use Rattle.file_model.specs.Flush.{table_in}

abbrev pub units_of_rejects : List Reject → List ℕ
units_of_rejects rejects = map (λ r. r.unit) rejects

-- the header that is read is the same, and so are the blocks and the table that are seen with this one
pub record KeepsTable (h : Head) (old now : List ℕ) : Type 0 where
  pub header : located now ≡ located old
  pub blocks : taken (view_of h now) ≡ taken (view_of h old)
  pub table : table_in segment_units h now ≡ table_in segment_units h old
