-- The header that is located is that of the file.
use Rattle.std.proofs.Common.{◌≡◌, ℕ, Bool, List, length, Option, Some, None, Result, Ok, Err, refl, ap, subst}
use Rattle.std.specs.Prelude.{min, not}
use Rattle.file_model.specs.declared.head.Head.{Head}
use Rattle.file_model.specs.declared.head.Located.{Located}
use Rattle.file_model.specs.declared.head.Unreadable.{Unreadable}
use Rattle.file_model.specs.Layout.{page_of, copy_at, is_open_at, segments_within}
use Rattle.file_model.specs.Header.{units_per_segment, segments_of, current_copy, head_of, located_at, located}

found_at : (image : List ℕ) (copy : Option Bool) (head : Result Head Unreadable) (l : Located)
    → located_at (page_of image) (length image) copy head ≡ Ok l → (head ≡ Ok l.head) × (copy ≡ Some l.second) × (l.whole ≡ segments_of l.head image)
found_at image copy (Err why) l e = absurd (cc e)
found_at image None (Ok h) l e = absurd (cc e)
found_at image (Some second) (Ok h) l e =
    let found : Located = record {
      head = h;
      second = second;
      other_gate = is_open_at (page_of image) (copy_at (not second));
      whole = min h.segments (segments_within (units_per_segment h) (length image));
    } in
    let same : found ≡ l = cc e in
    subst (λ (x : Located). (◌≡◌ {A = Result Head Unreadable} (Ok h) (Ok x.head)) × (◌≡◌ {A = Option Bool} (Some second) (Some x.second))
    × (x.whole ≡ segments_of x.head image)) same (refl, refl, refl)

pub located_head : (image : List ℕ) (l : Located) → located image ≡ Ok l
    → (head_of image ≡ Ok l.head) × (current_copy (page_of image) ≡ Some l.second) × (l.whole ≡ segments_of l.head image)
located_head image l e = found_at image (current_copy (page_of image)) (head_of image) l e

pub located_fault : (image : List ℕ) (why : Unreadable) → head_of image ≡ Err why → located image ≡ Err why
located_fault image why e = ap (located_at (page_of image) (length image) (current_copy (page_of image))) e
