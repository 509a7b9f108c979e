-- What torn and whole writes of gates leave of an image.
use Rattle.std.proofs.Common.{◌≡◌, ◌≤◌, ◌<◌, inl, inr, ⊎_elim, ℕ, ◌+◌, ◌-◌, Bool, true, false, cond, ◌&&◌, ◌||◌, ◌==◌, List, [], ◌∷◌, length, get_or}
use Rattle.std.proofs.Common.{refl, sym, ap, ◌∙◌, subst, arith, slice_get, slice_index}
use Rattle.std.specs.Prelude.{unwrap_or, ◌≢◌, not}
use Rattle.std.proofs.lemmas.Bool.{cases_Bool, cases_lt, and_parts, both_ways, or_left, or_right, or_from, not-true, eq-eqb, eqb-true, eqb-false, and_right}
use Rattle.std.proofs.lemmas.Option.{unwrap_or-slice_get}
use Rattle.std.proofs.Math.Bool.{or-false, and-true}
use Rattle.host_model.specs.Disk.{in_doubt, is_in, written_at, DiffersIn}
use Rattle.host_model.specs.Torn.{outside_ranges, is_in-below, is_in-above, length-written_at, get_or-written_below, get_or-written_in, get_or-written_above}
use Rattle.host_model.specs.Writes.{range_of, ranges_of, with_writes, LieInside}
use Rattle.host_model.specs.WritesLaws.{length_kept}
use Rattle.file_model.specs.declared.head.Head.{Head}
use Rattle.file_model.specs.Layout.{page_size, gate_at, unit_at, segment_end, open_byte, closed_byte, is_open_at, page_of}
use Rattle.file_model.specs.LayoutLaws.{in_segment, gates_apart, gate_apart_from_unit, segment_ends, unit_whole}
use Rattle.file_model.specs.Header.{segments_in, current_copy, head_of, located_at, located}
use Rattle.file_model.specs.Block.{standing}
use Rattle.file_model.specs.View.{units_in, view}
use Rattle.file_model.specs.Gates.{with_gates, OpenBetween, is_among, opened, closed}
use Rattle.file_model.specs.GateWrites.{gate_write, gate_writes, AreWhole, AreOpen, AreClosed, OnlyGatesDiffer}
use Rattle.file_model.proofs.Seen.{view_same}

-- ---- images of one length with one page

-- they have one header, found at one place
pub head_same : (old new : List ℕ) → length new ≡ length old → page_of new ≡ page_of old → head_of new ≡ head_of old
unfolding head_of
head_same old new long page = rw (long, page) refl

pub located_same : (old new : List ℕ) → length new ≡ length old → page_of new ≡ page_of old → located new ≡ located old
located_same old new long page =
    let head = head_same old new long page in
    λ i. located_at (page i) (long i) (current_copy (page i)) (head i)

pub count_same : (n : ℕ) (h : Head) (old new : List ℕ) → length new ≡ length old → (units_in n h new).count ≡ (units_in n h old).count
count_same n h old new long = rw long refl

-- a unit in the segments that count lies wholly in the image
pub unit_inside : (n : ℕ) (h : Head) (image : List ℕ) (u : ℕ) → 0 < n → u < (units_in n h image).count → segment_end n u ≤ length image
unit_inside n h image u some l = unit_whole n u (segments_in n h image) image some l (omega arith)

pub same_index : (xs ys : List ℕ) (k : ℕ) → slice_get xs k ≡ slice_get ys k → slice_index xs k ≡ slice_index ys k
same_index xs ys k e = sym (unwrap_or-slice_get xs k 0) ∙ ap (λ o. unwrap_or o 0) e ∙ unwrap_or-slice_get ys k 0

-- ---- where the writes are

off : (n byte u k : ℕ) → gate_at n u ≢ k → is_in (range_of (gate_write n byte u)) k ≡ false
off n byte u k apart = ⊎_elim
    (λ below. is_in-below (range_of (gate_write n byte u)) k below)
    (λ above. is_in-above (range_of (gate_write n byte u)) k (omega arith))
    (cases_lt k (gate_at n u))

here_among : (u : ℕ) (us : List ℕ) → is_among (u ∷ us) u ≡ true
here_among u us = or_left (u == u) (is_among us u) (eq-eqb u u refl)

-- a place that is no gate of these units
no_gate : (n byte : ℕ) (us : List ℕ) (k : ℕ) → ((u : ℕ) → is_among us u ≡ true → gate_at n u ≢ k)
    → in_doubt (ranges_of (gate_writes n byte us)) k ≡ false
no_gate n byte [] k apart = refl
no_gate n byte (u ∷ us) k apart =
    or_from _ _ (off n byte u k (apart u (here_among u us)))
    (no_gate n byte us k (λ w among. apart w (or_right (u == w) (is_among us w) among)))

gate_inside : (n u : ℕ) (image : List ℕ) → 0 < n → segment_end n u ≤ length image → gate_at n u + 1 ≤ length image
gate_inside n u image some whole =
    let a = in_segment n u some in
    let e = segment_ends n u in
    omega (arith, a.gate_below, a.unit_from, a.unit_ends)

pub lie_inside : (n byte : ℕ) (us image : List ℕ) → 0 < n → AreWhole n us image → LieInside (gate_writes n byte us) image
lie_inside n byte [] image some whole = tt
lie_inside n byte (u ∷ us) image some whole = (
  gate_inside n u image some (whole u (here_among u us)),
  lie_inside n byte us image some (λ w among. whole w (or_right (u == w) (is_among us w) among)),
)

other_gate : (n : ℕ) (us : List ℕ) (u w : ℕ) → 0 < n → is_among us u ≡ true → is_among us w ≡ false → gate_at n u ≢ gate_at n w
other_gate n us u w some among none same = both_ways _ none (subst (λ x. is_among us x ≡ true) (gates_apart n u w some same) among)

off_unit : (n u w k : ℕ) → 0 < n → unit_at n w ≤ k → k < segment_end n w → gate_at n u ≢ k
off_unit n u w k some a b same = ⊎_elim (λ below. omega arith) (λ above. omega arith) (gate_apart_from_unit n u w some)

-- ---- torn

pub gates_torn : (n byte : ℕ) (us old new : List ℕ) → 0 < n → page_size ≤ length old → AreWhole n us old
    → DiffersIn (ranges_of (gate_writes n byte us)) old new → OnlyGatesDiffer n us old new
gates_torn n byte us old new some page whole d =
    let writes = gate_writes n byte us in
    let long : length new ≡ length old = length_kept writes old new (lie_inside n byte us old some whole) d in
    let front : page_of new ≡ page_of old = outside_ranges (ranges_of writes) 0 page_size old new d page (λ k a b.
    no_gate n byte us k (λ u among same. let behind = (in_segment n u some).gate_behind_page in omega arith)) in
    record {
      long = long;
      header = located_same old new long front;
      gates = λ w none. ap (λ x. x == open_byte) (same_index new old (gate_at n w)
          (d.outside (gate_at n w) (no_gate n byte us (gate_at n w) (λ u among. other_gate n us u w some among none))));
      behind = λ h w l. ap (standing n h.kind h.keypos w) (outside_ranges (ranges_of writes) (unit_at n w) (segment_end n w) old new d
          (unit_inside n h old w some l) (λ k a b. no_gate n byte us k (λ u among. off_unit n u w k some a b)));
    }

-- what is seen then is what stood there, by the gates as they are now
pub seen_by_gates : (n : ℕ) (us old new : List ℕ) (h : Head) → OnlyGatesDiffer n us old new
    → view h (units_in n h new) ≡ view h (with_gates (units_in n h old) (units_in n h new).is_open)
seen_by_gates n us old new h d =
    view_same h (with_gates (units_in n h old) (units_in n h new).is_open) (units_in n h new) (record {
      count = count_same n h old new d.long;
      gates = λ u l. refl;
      behind = λ u l o. d.behind h u l;
    })

-- gates that were closed: some of them are open
pub opens_some : (n : ℕ) (us old new : List ℕ) (h : Head) → AreClosed n us old → OnlyGatesDiffer n us old new
    → OpenBetween (units_in n h old).is_open (is_among us) (units_in n h new).is_open
opens_some n us old new h shut d = record {
  at_least = λ u o. ⊎_elim
      (λ among. absurd (both_ways _ (shut u among) o))
      (λ none. d.gates u none ∙ o)
      (cases_Bool (is_among us u));
  at_most = λ u o. ⊎_elim
      (λ among. inr among)
      (λ none. inl (sym (d.gates u none) ∙ o))
      (cases_Bool (is_among us u));
}

-- gates that were open: some of them still are
pub closes_some : (n : ℕ) (us old new : List ℕ) (h : Head) → AreOpen n us old → OnlyGatesDiffer n us old new
    → OpenBetween (closed us (units_in n h old).is_open) (units_in n h old).is_open (units_in n h new).is_open
closes_some n us old new h were d = record {
  at_least = λ u o. let p = and_parts _ _ o in d.gates u (not-true _ p.1) ∙ p.0;
  at_most = λ u o. ⊎_elim
      (λ among. inr (were u among))
      (λ none. inr (sym (d.gates u none) ∙ o))
      (cases_Bool (is_among us u));
}

-- ---- whole

whole_longer : (n : ℕ) (us old new : List ℕ) → length new ≡ length old → AreWhole n us old → AreWhole n us new
whole_longer n us old new long whole u among = let l = whole u among in omega arith

next_above : (n u w : ℕ) → 0 < n → (u ≡ w → ⊥) → gate_at n u ≤ gate_at n w → gate_at n u + 1 ≤ gate_at n w
next_above n u w some other above = ⊎_elim
    (λ less. omega arith)
    (λ more. absurd (other (gates_apart n u w some (omega arith))))
    (cases_lt (gate_at n u) (gate_at n w))

first_of : (byte at : ℕ) → get_or (byte ∷ []) (at - at) 0 ≡ byte
first_of byte at = let zero_at : at - at ≡ 0 = omega arith in rw zero_at refl

one_written : (n byte u w : ℕ) (file : List ℕ) (same : Bool) → 0 < n → (u == w) ≡ same → gate_at n u < length file
    → slice_index (written_at (gate_at n u) (byte ∷ []) file) (gate_at n w) ≡ cond same byte (slice_index file (gate_at n w))
one_written n byte u w file true some e l =
    subst (λ x. slice_index (written_at (gate_at n u) (byte ∷ []) file) (gate_at n x) ≡ byte) (eqb-true u w e)
    (get_or-written_in (gate_at n u) (byte ∷ []) file (gate_at n u) (omega arith) (omega arith) (omega arith) ∙ first_of byte (gate_at n u))
one_written n byte u w file false some e l = ⊎_elim
    (λ below. get_or-written_below (gate_at n u) (byte ∷ []) file (gate_at n w) (omega arith) below)
    (λ above. get_or-written_above (gate_at n u) (byte ∷ []) file (gate_at n w) (omega arith)
    (let next = next_above n u w some (eqb-false u w e) above in omega arith))
    (cases_lt (gate_at n w) (gate_at n u))

or_cond : {X : Type 0} (a b : Bool) (x y : X) → cond b x (cond a x y) ≡ cond (a || b) x y
or_cond true true x y = refl
or_cond true false x y = refl
or_cond false true x y = refl
or_cond false false x y = refl

written_gate : (n byte : ℕ) (us : List ℕ) (w : ℕ) (file : List ℕ) → 0 < n → AreWhole n us file
    → slice_index (with_writes (gate_writes n byte us) file) (gate_at n w) ≡ cond (is_among us w) byte (slice_index file (gate_at n w))
written_gate n byte [] w file some whole = refl
written_gate n byte (u ∷ us) w file some whole =
    let inside = gate_inside n u file some (whole u (here_among u us)) in
    let next = written_at (gate_at n u) (byte ∷ []) file in
    let long : length next ≡ length file = let l = length-written_at (gate_at n u) (byte ∷ []) file (omega arith) in omega arith in
    let rest = whole_longer n us file next long (λ x among. whole x (or_right (u == x) (is_among us x) among)) in
    written_gate n byte us w next some rest
    ∙ ap (λ x. cond (is_among us w) byte x) (one_written n byte u w file (u == w) some refl (omega arith))
    ∙ or_cond (u == w) (is_among us w) byte (slice_index file (gate_at n w))

open_cond : (among : Bool) (x : ℕ) → (cond among open_byte x == open_byte) ≡ (x == open_byte || among)
open_cond true x = sym (or_right (x == open_byte) true refl)
open_cond false x = sym (or-false (x == open_byte))

shut_cond : (among : Bool) (x : ℕ) → (cond among closed_byte x == open_byte) ≡ (x == open_byte && not among)
shut_cond true x = sym (and_right (x == open_byte) false refl)
shut_cond false x = sym (and-true (x == open_byte))

pub gates_opened : (n : ℕ) (us image : List ℕ) (u : ℕ) → 0 < n → AreWhole n us image
    → is_open_at (with_writes (gate_writes n open_byte us) image) (gate_at n u) ≡ opened us (λ w. is_open_at image (gate_at n w)) u
gates_opened n us image u some whole =
    ap (λ x. x == open_byte) (written_gate n open_byte us u image some whole) ∙ open_cond (is_among us u) (slice_index image (gate_at n u))

pub gates_closed : (n : ℕ) (us image : List ℕ) (u : ℕ) → 0 < n → AreWhole n us image
    → is_open_at (with_writes (gate_writes n closed_byte us) image) (gate_at n u) ≡ closed us (λ w. is_open_at image (gate_at n w)) u
gates_closed n us image u some whole =
    ap (λ x. x == open_byte) (written_gate n closed_byte us u image some whole) ∙ shut_cond (is_among us u) (slice_index image (gate_at n u))
