-- A nest is as it should be behind a whole part, in a term that is opened, and behind a comma, a bar and an arrow.
use Rattle.std.proofs.Common.{◌≡◌, ℕ, ◌<◌, ◌≤◌, Bool, true, false, Option, Some, None, Ok, List, [], ◌∷◌, ◌++◌, ◌⊎◌, inl, inr, length, refl, ap, ◌∙◌}
use Rattle.std.proofs.Common.{sym, subst, arith}
use Rattle.dets_term.specs.TermValue.{TermValue}
use Rattle.dets_term.specs.Pairs.{placed}
use Rattle.text_model.specs.declared.fault.TextWhy.{TextWhy}
use Rattle.text_model.specs.Grammar.{Rules, last_bits}
use Rattle.text_model.specs.Nest.{Frame, in_tuple, in_list, in_tail, in_map, in_value, in_bits, Begun, Place, want, after, value, segment, Nest}
use Rattle.text_model.specs.Nest.{is_bits, refusal, leaf, open_term, close, frame_after_comma, frame_after_bar, frame_after_arrow, changed_to, change}
use Rattle.text_model.proofs.Refused.{leaf_is, open_term_is, closed_is, may_begin_at}
use Rattle.text_model.proofs.ReachedNests.{is_first, NoBits, NoBitsOutside, HasRoom, IsPlaced, IsReached, no_bits_outside, no_bits, no_bits_apart}

-- ---- a whole term, and one that is opened

reached_after : (rules : Rules) (bs : List Begun) (start : ℕ) (t : TermValue) → NoBits bs → length bs < rules.levels
    → IsReached rules (record { begun = bs; place = after start t })
reached_after rules bs start t none low = record {
  outside = no_bits_outside bs none;
  shallow = omega arith;
  placed = (no_bits_apart bs none, low);
}

pub reached_leaf : (rules : Rules) (n m : Nest) (at : ℕ) (t : TermValue) (o : Option TextWhy) → (o ≡ None → refusal rules n ≡ None) → IsReached rules n
    → leaf rules n at t o ≡ Ok m → IsReached rules m
reached_leaf rules n m at t o passes r e =
    let is = leaf_is rules n at t o m e in
    let may = may_begin_at rules n (passes is.0) in
    subst (λ k. IsReached rules k) is.1 (reached_after rules n.begun at t (no_bits n.begun may.1 r.outside) may.2)

pub reached_open : (rules : Rules) (n m : Nest) (at : ℕ) (frame : Frame) → is_first frame ≡ true → IsReached rules n
    → open_term rules n at frame (refusal rules n) ≡ Ok m → IsReached rules m
reached_open rules n m at frame first r e =
    let is = open_term_is rules n at frame (refusal rules n) m e in
    let may = may_begin_at rules n is.0 in
    subst (λ k. IsReached rules k) is.1 (record { outside = no_bits n.begun may.1 r.outside; shallow = may.2; placed = first })

pub reached_close : (rules : Rules) (term : Frame → Place → Option TermValue) (n m : Nest) (at : ℕ) (bs : List Begun) → NoBitsOutside bs
    → length bs ≤ rules.levels → close rules term n at bs ≡ Ok m → IsReached rules m
reached_close rules term n m at [] outside low e = cc
reached_close rules term n m at (b ∷ bs) outside low e =
    let is = closed_is rules bs b.start (term b.frame n.place) at m e in
    subst (λ k. IsReached rules k) is.2 (reached_after rules bs b.start is.0 outside low)

-- ---- the innermost term behind a comma, a bar and an arrow

-- behind a whole part
abbrev is_behind_part : Place → Bool
is_behind_part (after start t) = true
is_behind_part other = false

has_room : (rules : Rules) (bs : List Begun) (place : Place) → is_behind_part place ≡ true → IsPlaced rules bs place → HasRoom rules bs
has_room rules bs (after start t) e p = p
has_room rules bs other e p = cc

-- it is a bit string, or stood behind a whole part
abbrev Keeps : (Frame → Place → Option Frame) → Type 0
Keeps next =
    (frame other : Frame) (place : Place) → next frame place ≡ Some other → (is_bits other ≡ true) ⊎ ((is_bits other ≡ false) × (is_behind_part place ≡ true))

part_kept : (frame other : Frame) (place : Place) → is_bits frame ≡ false → is_behind_part place ≡ true → Some frame ≡ Some other
    → (is_bits other ≡ true) ⊎ ((is_bits other ≡ false) × (is_behind_part place ≡ true))
part_kept frame other place apart whole e = let same : frame ≡ other = cc in inr (ap is_bits (sym same) ∙ apart, whole)

bits_kept : (frame other : Frame) (place : Place) → is_bits frame ≡ true → Some frame ≡ Some other
    → (is_bits other ≡ true) ⊎ ((is_bits other ≡ false) × (is_behind_part place ≡ true))
bits_kept frame other place is e = let same : frame ≡ other = cc in inl (ap is_bits (sym same) ∙ is)

pub comma_keeps : Keeps frame_after_comma
comma_keeps (in_tuple ts) other (after s t) e = part_kept (in_tuple (ts ++ t ∷ [])) other (after s t) refl refl e
comma_keeps (in_list ts) other (after s t) e = part_kept (in_list (ts ++ t ∷ [])) other (after s t) refl refl e
comma_keeps (in_value pairs k) other (after s t) e = part_kept (in_map (placed (k, t) pairs)) other (after s t) refl refl e
comma_keeps (in_bits bits) other (value s v) e = bits_kept (in_bits (bits ++ last_bits 8 v)) other (value s v) refl e
comma_keeps (in_bits bits) other segment e = bits_kept (in_bits bits) other segment refl e
comma_keeps frame other place e = cc

pub bar_keeps : Keeps frame_after_bar
bar_keeps (in_list ts) other (after s t) e = part_kept (in_tail (ts ++ t ∷ [])) other (after s t) refl refl e
bar_keeps frame other place e = cc

pub arrow_keeps : Keeps frame_after_arrow
arrow_keeps (in_map pairs) other (after s t) e = part_kept (in_value pairs t) other (after s t) refl refl e
arrow_keeps frame other place e = cc

reached_changed : (rules : Rules) (b : Begun) (bs : List Begun) (place : Place) (o : Option Frame) (at : ℕ) (m : Nest) → NoBits bs
    → length (b ∷ bs) ≤ rules.levels → IsPlaced rules (b ∷ bs) place
    → ((other : Frame) → o ≡ Some other → (is_bits other ≡ true) ⊎ ((is_bits other ≡ false) × (is_behind_part place ≡ true)))
    → changed_to b bs o at ≡ Ok m → IsReached rules m
reached_changed rules b bs place None at m none low p keeps e = cc
reached_changed rules b bs place (Some frame) at m none low p keeps e =
    let same : record { begun = record b { frame = frame } ∷ bs; place = want } ≡ m = cc in
    subst (λ k. IsReached rules k) same (record { outside = none; shallow = low; placed = by_kind (keeps frame refl) })
  where
    by_kind : (is_bits frame ≡ true) ⊎ ((is_bits frame ≡ false) × (is_behind_part place ≡ true)) → IsPlaced rules (record b { frame = frame } ∷ bs) want
    by_kind (inl is) = inl is
    by_kind (inr (apart, whole)) = inr (apart, (has_room rules (b ∷ bs) place whole p).1)

pub reached_change : (rules : Rules) (next : Frame → Place → Option Frame) (n m : Nest) (at : ℕ) (bs : List Begun) → Keeps next → NoBitsOutside bs
    → length bs ≤ rules.levels → IsPlaced rules bs n.place → change next n at bs ≡ Ok m → IsReached rules m
reached_change rules next n m at [] keeps outside low p e = cc
reached_change rules next n m at (b ∷ bs) keeps outside low p e =
    reached_changed rules b bs n.place (next b.frame n.place) at m outside low p (λ other f. keeps b.frame other n.place f) e
