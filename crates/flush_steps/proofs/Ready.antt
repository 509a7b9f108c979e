-- A file gets segments behind those of its header, and then another header.
use Rattle.std.proofs.Common.{◌≡◌, ◌≤◌, ◌<◌, ◌-◌, ◌*◌, ◌==◌, ◌∙◌, ℕ, zero, suc, Bool, true, false, cond, not, List, length, slice_get, slice_index}
use Rattle.std.proofs.Common.{Option, Some, None, Result, Ok, Err, refl, sym, ap, inl, inr, arith, ⊎_elim}
use Rattle.std.specs.Prelude.{min, nat_lt, unwrap_or}
use Rattle.std.proofs.lemmas.Bool.{leb-true, ltb-false}
use Rattle.std.proofs.lemmas.Option.{unwrap_or-slice_get}
use Rattle.space_model.specs.Sizes.{segment_units}
use Rattle.host_model.specs.Disk.{range, in_doubt, DiffersIn, WhereTold}
use Rattle.host_model.specs.Torn.{alone, is_in-below, is_in-above, outside_ranges}
use Rattle.file_model.specs.declared.head.Head.{Head}
use Rattle.file_model.specs.declared.head.Located.{Located}
use Rattle.file_model.specs.declared.head.Unreadable.{Unreadable}
use Rattle.file_model.specs.declared.head.Unreadable.TheVariants.{NotDets}
use Rattle.file_model.specs.Layout.{page_size, page_of, copy_at, segment_at, segment_size, segments_within, whole_segments, gate_at, is_open_at, open_byte}
use Rattle.file_model.specs.LayoutLaws.{in_segment, whole_ends}
use Rattle.file_model.specs.Header.{units_per_segment, segments_of, current_copy, head_of_page, head_of, located_at, located}
use Rattle.file_model.specs.Fit.{has_segments}
use Rattle.block_disk.specs.Places.{the_page}
use Rattle.block_disk.specs.Copies.{HasEither}
use Rattle.book_model.specs.Stopped.{dirtied, KeepsSegments, AreShut, IsPreparing}
use Rattle.flush_steps.specs.Added.{added}

-- ---- what is known of the file at first

pub record IsAtStart (place : Located) (f : List ℕ) : Type 0 where
  pub found : located f ≡ Ok place
  pub head : head_of f ≡ Ok place.head
  pub page : page_size ≤ length f
  -- its segments are whole
  pub whole : place.head.segments ≤ whole_segments segment_units f
  pub end : segment_at segment_units place.head.segments ≤ length f

no_header : (t : Bool) (r : Result Head Unreadable) (h : Head) → cond t (Err NotDets) r ≡ Ok h → t ≡ false
no_header true r h e = absurd (cc e)
no_header false r h e = refl

page_there : (f : List ℕ) (h : Head) → head_of f ≡ Ok h → page_size ≤ length f
unfolding head_of
page_there f h e = ltb-false (length f) page_size (no_header (nat_lt (length f) page_size) (head_of_page (page_of f)) h e)

ends : (s : ℕ) (f : List ℕ) → page_size ≤ length f → s ≤ whole_segments segment_units f → segment_at segment_units s ≤ length f
ends zero f page l = omega arith
ends (suc s) f page l = whole_ends segment_units (suc s) f (omega arith) (omega arith) l

-- what the law of located headers says
abbrev pub HeadAtPlace : Type 0
HeadAtPlace = (image : List ℕ) (l : Located) → located image ≡ Ok l
    → (head_of image ≡ Ok l.head) × (current_copy (page_of image) ≡ Some l.second) × (l.whole ≡ segments_of l.head image)

pub at_start : (place : Located) (file : Option (List ℕ)) → HeadAtPlace → WhereTold file (λ f. located f ≡ Ok place)
    → WhereTold file (λ f. has_segments place.head f ≡ true) → WhereTold file (IsAtStart place)
at_start place file law found whole f told =
    let head = (law f place (found f told)).0 in
    let page = page_there f place.head head in
    let counted = leb-true place.head.segments (whole_segments segment_units f) (whole f told) in
    record { found = found f told; head = head; page = page; whole = counted; end = ends place.head.segments f page counted }

-- ---- segments come behind its own

-- the bytes before them are as before
before : (place : Located) (to : ℕ) (k : ℕ) → k < segment_at segment_units place.head.segments
    → in_doubt (added segment_units place.head.segments to) k ≡ false
before place to k l =
    let r = range (segment_at segment_units place.head.segments) (segment_size segment_units * (to - place.head.segments)) in
    alone r k (is_in-below r k l)

-- so the header is, and where it is found
abbrev pub HeadByPage : Type 0
HeadByPage = (old new : List ℕ) → page_size ≤ length old → page_size ≤ length new → page_of new ≡ page_of old → head_of new ≡ head_of old

located_size : (page : List ℕ) (n m : ℕ) (copy : Option Bool) (h : Head)
    → min h.segments (segments_within (units_per_segment h) n) ≡ min h.segments (segments_within (units_per_segment h) m)
    → located_at page n copy (Ok h) ≡ located_at page m copy (Ok h)
located_size page n m None h e = refl
located_size page n m (Some second) h e =
    ap (λ w. Ok (record { head = h; second = second; other_gate = is_open_at page (copy_at (not second)); whole = w })) e

module _ (place : Located) (to : ℕ) (f y : List ℕ) (law : HeadByPage) (start : IsAtStart place f)
    (differs : DiffersIn (added segment_units place.head.segments to) f y) where
  page_same : page_of y ≡ page_of f
  page_same =
      outside_ranges (added segment_units place.head.segments to) 0 page_size f y differs start.page
      (λ k a b. before place to k (omega arith))

  head_same : head_of y ≡ Ok place.head
  head_same = law f y start.page (omega (arith, start.page, differs.no_shorter)) page_same ∙ start.head

  whole_same : min place.head.segments (whole_segments segment_units y) ≡ min place.head.segments (whole_segments segment_units f)
  whole_same = omega (arith, start.whole, differs.no_shorter)

  pub found_again : located y ≡ Ok place
  found_again =
      (λ i. located_at (page_same i) (length y) (current_copy (page_same i)) (head_same i))
      ∙ located_size (page_of f) (length y) (length f) (current_copy (page_of f)) place.head whole_same
      ∙ ap (located_at (page_of f) (length f) (current_copy (page_of f))) (sym start.head)
      ∙ start.found

  pub keeps_segments : KeepsSegments segment_units place.head.segments f y
  keeps_segments = record { bytes = λ k a b. differs.outside k (before place to k b); no_shorter = differs.no_shorter }

  pub preparing_grown : IsPreparing place.head to f y
  preparing_grown = record { header = inl head_same; keeps = keeps_segments }

-- ---- and then the header is changed

-- the segments were added
pub record IsGrown (place : Located) (to : ℕ) (f y : List ℕ) : Type 0 where
  pub keeps : KeepsSegments segment_units place.head.segments f y
  pub shut : AreShut segment_units place.head.segments to y

-- a place behind the page is in no doubt
behind : (k : ℕ) → page_size ≤ k → in_doubt the_page k ≡ false
behind k l = alone (range 0 page_size) k (is_in-above (range 0 page_size) k l)

same_index : (xs ys : List ℕ) (k : ℕ) → slice_get xs k ≡ slice_get ys k → slice_index xs k ≡ slice_index ys k
same_index xs ys k e = sym (unwrap_or-slice_get xs k 0) ∙ ap (λ o. unwrap_or o 0) e ∙ unwrap_or-slice_get ys k 0

shut_kept : (from to : ℕ) (y z : List ℕ) → DiffersIn the_page y z → AreShut segment_units from to y → AreShut segment_units from to z
shut_kept from to y z d shut = record {
  whole = omega (arith, shut.whole, d.no_shorter);
  gates = λ u a b.
      let gate = gate_at segment_units u in
      let place = in_segment segment_units u (omega arith) in
      ap (λ byte. byte == open_byte) (same_index z y gate (d.outside gate (behind gate place.gate_behind_page))) ∙ shut.gates u a b;
}

module _ (place : Located) (to : ℕ) (f y z : List ℕ) (grown : IsGrown place to f y) (either : HasEither place.head (dirtied place.head to) y z) where
  pub shut_then : AreShut segment_units place.head.segments to z
  shut_then = shut_kept place.head.segments to y z either.outside grown.shut

  pub keeps_then : KeepsSegments segment_units place.head.segments f z
  keeps_then = record {
    bytes = λ k a b. either.outside.outside k (behind k a) ∙ grown.keeps.bytes k a b;
    no_shorter = omega (arith, grown.keeps.no_shorter, either.outside.no_shorter);
  }

  pub preparing_then : IsPreparing place.head to f z
  preparing_then = record {
    header = ⊎_elim (λ old. inl old) (λ new. inr (record { header = new; shut = shut_then })) either.header;
    keeps = keeps_then;
  }
