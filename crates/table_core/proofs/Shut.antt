-- The header of a file is closed, and all else shows what it showed.
use Rattle.std.proofs.Common.{◌≡◌, ⊎_elim, ℕ, true, List, None, Ok, refl, ap, ◌∙◌}
use Rattle.std.specs.Prelude.{nat_le}
use Rattle.std.proofs.lemmas.Bool.{and_from}
use Rattle.space_model.specs.Sizes.{segment_units}
use Rattle.host_model.specs.Disk.{DiffersIn}
use Rattle.file_model.specs.declared.head.Head.{Head}
use Rattle.file_model.specs.declared.head.Located.{Located}
use Rattle.file_model.specs.declared.head.FileState.TheVariants.{Closed}
use Rattle.file_model.specs.Layout.{segments_within}
use Rattle.file_model.specs.Header.{head_of, located}
use Rattle.file_model.specs.View.{View, view_of}
use Rattle.file_model.specs.Taken.{taken, objects_in}
use Rattle.file_model.specs.Fit.{has_segments, has_no_rejects, is_sound}
use Rattle.block_disk.specs.Places.{the_page}
use Rattle.block_disk.specs.Copies.{HasEither}
use Rattle.store_model.specs.Keeping.{Keeps}
use Rattle.table_core.specs.Closing.{closed_head, IsClosed}
use Rattle.table_core.specs.Below.{RepairLaws}
use Rattle.table_core.proofs.Marked.{differs_not, read, page, same_length, seen, with_old_header}

module _ (laws : RepairLaws) (place : Located) (f : List ℕ) (found : located f ≡ Ok place) (whole : has_segments place.head f ≡ true)
    (none : has_no_rejects (view_of place.head f) ≡ true) where
  abbrev h : Head
  h = place.head

  module _ (z : List ℕ) (outside : DiffersIn the_page f z) where
    whole_then : has_segments h z ≡ true
    whole_then = ap (λ n. nat_le h.segments (segments_within segment_units n)) (same_length laws place f found z outside) ∙ whole

    none_then : has_no_rejects (view_of h z) ≡ true
    none_then = ap has_no_rejects (seen laws place f found z outside h) ∙ none

    -- a closed header sees a sound file
    sound_then : is_sound (closed_head h) z ≡ true
    sound_then = and_from _ _ whole_then (and_from _ _ none_then refl)

    units_then : (view_of (closed_head h) z).open_units ≡ (view_of h f).open_units
    units_then = ap (λ (v : View). v.open_units) (seen laws place f found z outside h)

    with_closed_header : head_of z ≡ Ok (closed_head h) → Keeps h f z
    with_closed_header e = record {
      head = closed_head h;
      read = e;
      kind = refl;
      keypos = refl;
      table = λ i. record { kind = h.kind; keypos = h.keypos; objects = objects_in (taken (seen laws place f found z outside h i)) };
      fit = laws.fit (closed_head h) z e;
      sound = λ s. record { head = closed_head h; read = e; sound = sound_then };
    }

    pub shut : head_of z ≡ Ok (closed_head h) → IsClosed h f z
    shut e = record { read = e; sound = sound_then; whole = whole_then; open_units = units_then }

  pub keeps_shutting : (z : List ℕ) → HasEither h (closed_head h) f z → Keeps h f z
  keeps_shutting z either =
      ⊎_elim (with_old_header laws place f found z either.outside) (with_closed_header z either.outside) either.header

  -- one that is closed already
  pub shut_already : h.state ≡ Closed → h.index ≡ None → IsClosed h f f
  shut_already state index =
      let same : h ≡ closed_head h = λ i. record h { state = state i; index = index i } in
      shut f (differs_not f (page laws place f found)) (read laws place f found ∙ ap (λ x. Ok x) same)
