-- What the laws of the crates below say of a repair.
use Rattle.std.specs.Prelude.{◌≡◌, ◌≤◌, ◌<◌, ℕ, true, false, List, Ok, Some}
use Rattle.host_model.specs.Disk.{Range, in_doubt, DiffersIn}
use Rattle.file_model.specs.declared.head.Head.{Head}
use Rattle.file_model.specs.declared.head.Located.{Located}
use Rattle.file_model.specs.declared.head.FileState.TheVariants.{Dirty}
use Rattle.file_model.specs.Layout.{page_size, segment_at, page_of}
use Rattle.file_model.specs.Header.{segments_in, segments_of, current_copy, head_of, located}
use Rattle.file_model.specs.View.{units_in, view}
use Rattle.file_model.specs.Fit.{is_sound, IsFit}

pub record RepairLaws : Type 0 where
  pub fit : (h : Head) (image : List ℕ) → head_of image ≡ Ok h → IsFit image
  pub dirty_is_sound : (h : Head) (image : List ℕ) → h.state ≡ Dirty → is_sound h image ≡ true
  pub located : (image : List ℕ) (l : Located) → located image ≡ Ok l
      → (head_of image ≡ Ok l.head) × (current_copy (page_of image) ≡ Some l.second) × (l.whole ≡ segments_of l.head image)
  pub seen : (per_segment : ℕ) (h : Head) (ranges : List Range) (old new : List ℕ) → 0 < per_segment → DiffersIn ranges old new
      → segments_in per_segment h new ≡ segments_in per_segment h old
      → ((k : ℕ) → page_size ≤ k → k < segment_at per_segment (segments_in per_segment h old) → in_doubt ranges k ≡ false)
      → view h (units_in per_segment h new) ≡ view h (units_in per_segment h old)
