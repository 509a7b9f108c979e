-- What stands behind a nest whose innermost term a comma, a bar or an arrow changes, and behind one that a closing mark leaves.
use Rattle.std.proofs.Common.{◌∙◌, ◌≡◌, ℕ, Bool, Some, List, [], ◌∷◌, ◌++◌, inl, inr, refl, ap, sym, subst}
use Rattle.std.specs.List.{flat_map}
use Rattle.dets_term.specs.TermValue.{TermValue, tuple, nil, bits, chain, map_of}
use Rattle.dets_term.specs.BitString.{byte_bits}
use Rattle.dets_term.specs.Pairs.{placed}
use Rattle.text_model.specs.declared.mark.Mark.TheVariants.{CloseBrace, CloseList, CloseBits, Bar, Comma, Arrow, Colon}
use Rattle.text_model.specs.Token.{Token, mark, number, string}
use Rattle.text_model.specs.Grammar.{Rules, last_bits, Text}
use Rattle.text_model.specs.Nest.{Frame, in_tuple, in_list, in_tail, in_map, in_value, in_bits, Begun, Place, opened, after, value, segment, sized}
use Rattle.text_model.specs.Nest.{last_part, brace_term, list_term, bits_term, frame_after_comma, frame_after_bar, frame_after_arrow}
use Rattle.text_model.proofs.OpenTerms.{IsInside, AreOpen, IsWhole, IsAt}
use Rattle.text_model.proofs.InsideTerms.{with_mark, tuple_comma, list_comma, list_bar, map_arrow, value_comma, bits_comma, tuple_closed, list_closed}
use Rattle.text_model.proofs.InsideTerms.{tail_closed, map_closed, bits_closed}
use Rattle.text_model.proofs.MarksBehind.{still_open, now_whole, whole_at_once, part_open, part_whole}
use Rattle.std.proofs.lemmas.Option.{same_Some}

-- ---- a term that stays open

abbrev pub StaysOpen : Rules → ℕ → Frame → List Begun → List (ℕ × Token) → Type 0
StaysOpen rules start frame bs ps = (levels : ℕ) × AreOpen rules levels (record { start = start; frame = frame } ∷ bs) ps

open_as : (rules : Rules) (start : ℕ) (frame other : Frame) (bs : List Begun) (ps : List (ℕ × Token)) → Some frame ≡ Some other
    → StaysOpen rules start frame bs ps → StaysOpen rules start other bs ps
open_as rules start frame other bs ps e o = subst (λ f. StaysOpen rules start f bs ps) (same_Some frame other e) o

-- the bits of one string more
string_comma : (rules : Rules) (start : ℕ) (own : List Bool) (bs : List Begun) (ps : List (ℕ × Token)) (at : ℕ)
    → IsAt rules (record { start = start; frame = in_bits own } ∷ bs) segment ps → StaysOpen rules start (in_bits own) bs (ps ++ (at, mark Comma) ∷ [])
string_comma rules start own bs ps at (levels, before, late, cs, old, parted, same, range, so_far) = (
  levels,
  still_open rules levels start (in_bits old) (in_bits own) bs before ((late, string cs) ∷ []) ps at Comma parted so_far refl
      (λ inside is. subst (λ f. IsInside rules (Text rules levels) f (with_mark inside (string cs ∷ []) Comma)) (sym same)
      (bits_comma rules (Text rules levels) old (flat_map byte_bits cs) inside (string cs ∷ []) is (λ rest. inr (cs, refl, range, refl)))),
)

pub comma_open : (rules : Rules) (start : ℕ) (frame other : Frame) (bs : List Begun) (place : Place) (ps : List (ℕ × Token)) (at : ℕ)
    → frame_after_comma frame place ≡ Some other → IsAt rules (record { start = start; frame = frame } ∷ bs) place ps
    → StaysOpen rules start other bs (ps ++ (at, mark Comma) ∷ [])
comma_open rules start (in_tuple parts) other bs (after s t) ps at e is =
    open_as rules start _ other bs _ e
    (part_open rules start (in_tuple parts) (in_tuple (parts ++ t ∷ [])) bs s t ps at Comma is.0 refl
    (λ Part inside own. tuple_comma rules Part parts t inside own))
comma_open rules start (in_list parts) other bs (after s t) ps at e is =
    open_as rules start _ other bs _ e
    (part_open rules start (in_list parts) (in_list (parts ++ t ∷ [])) bs s t ps at Comma is.0 refl
    (λ Part inside own. list_comma rules Part parts t inside own))
comma_open rules start (in_value pairs k) other bs (after s v) ps at e is =
    open_as rules start _ other bs _ e
    (part_open rules start (in_value pairs k) (in_map (placed (k, v) pairs)) bs s v ps at Comma is.0 refl
    (λ Part inside own. value_comma rules Part pairs k v inside own))
comma_open rules start (in_bits own) other bs (value s v) ps at e (levels, before, late, parted, range, so_far) =
    open_as rules start _ other bs _ e (
      levels,
      still_open rules levels start (in_bits own) (in_bits (own ++ last_bits 8 v)) bs before ((late, number v) ∷ []) ps at Comma parted so_far refl
          (λ inside is. bits_comma rules (Text rules levels) own (last_bits 8 v) inside (number v ∷ []) is (λ rest. inl (v, refl, range, refl))),
    )
comma_open rules start (in_bits own) other bs segment ps at e is = open_as rules start (in_bits own) other bs _ e (string_comma rules start own bs ps at is)
comma_open rules start frame other bs place ps at e _ = cc

pub bar_open : (rules : Rules) (start : ℕ) (frame other : Frame) (bs : List Begun) (place : Place) (ps : List (ℕ × Token)) (at : ℕ)
    → frame_after_bar frame place ≡ Some other → IsAt rules (record { start = start; frame = frame } ∷ bs) place ps
    → StaysOpen rules start other bs (ps ++ (at, mark Bar) ∷ [])
bar_open rules start (in_list parts) other bs (after s t) ps at e is =
    open_as rules start _ other bs _ e
    (part_open rules start (in_list parts) (in_tail (parts ++ t ∷ [])) bs s t ps at Bar is.0 refl
    (λ Part inside own. list_bar rules Part parts t inside own))
bar_open rules start frame other bs place ps at e _ = cc

pub arrow_open : (rules : Rules) (start : ℕ) (frame other : Frame) (bs : List Begun) (place : Place) (ps : List (ℕ × Token)) (at : ℕ)
    → frame_after_arrow frame place ≡ Some other → IsAt rules (record { start = start; frame = frame } ∷ bs) place ps
    → StaysOpen rules start other bs (ps ++ (at, mark Arrow) ∷ [])
arrow_open rules start (in_map pairs) other bs (after s k) ps at e is =
    open_as rules start _ other bs _ e
    (part_open rules start (in_map pairs) (in_value pairs k) bs s k ps at Arrow is.0 refl
    (λ Part inside own. map_arrow rules Part pairs k inside own is.1))
arrow_open rules start frame other bs place ps at e _ = cc

-- ---- a term that is whole

whole_as : (rules : Rules) (bs : List Begun) (start : ℕ) (t u : TermValue) (ps : List (ℕ × Token)) → Some t ≡ Some u → IsWhole rules bs start t ps
    → IsWhole rules bs start u ps
whole_as rules bs start t u ps e w = subst (λ v. IsWhole rules bs start v ps) (same_Some t u e) w

pub brace_whole : (rules : Rules) (start : ℕ) (frame : Frame) (bs : List Begun) (place : Place) (t : TermValue) (ps : List (ℕ × Token)) (at : ℕ)
    → IsAt rules (record { start = start; frame = frame } ∷ bs) place ps → brace_term frame (last_part place) ≡ Some t
    → IsWhole rules bs start t (ps ++ (at, mark CloseBrace) ∷ [])
brace_whole rules start (in_tuple parts) bs opened t ps at (levels, (outer, parted, empty, outside)) e =
    whole_as rules bs start (tuple (chain parts nil)) t _ e
    (whole_at_once rules levels start (in_tuple parts) bs (tuple (chain parts nil)) outer ps at CloseBrace parted outside
    (λ rest. ([], ap (λ us. tuple (chain us nil)) empty, refl)))
brace_whole rules start (in_tuple parts) bs (after s u) t ps at is e =
    whole_as rules bs start (tuple (chain (parts ++ u ∷ []) nil)) t _ e
    (part_whole rules start (in_tuple parts) bs _ s u ps at CloseBrace is.0 (λ Part inside own. tuple_closed rules Part parts u inside own))
brace_whole rules start (in_map pairs) bs opened t ps at (levels, (outer, parted, empty, outside)) e =
    whole_as rules bs start (map_of pairs) t _ e
    (whole_at_once rules levels start (in_map pairs) bs (map_of pairs) outer ps at CloseBrace parted outside
    (λ rest. ([], ap map_of empty, (λ d. refl), refl)))
brace_whole rules start (in_value pairs k) bs (after s v) t ps at is e =
    whole_as rules bs start (map_of (placed (k, v) pairs)) t _ e
    (part_whole rules start (in_value pairs k) bs _ s v ps at CloseBrace is.0 (λ Part inside own. map_closed rules Part pairs k v inside own))
brace_whole rules start frame bs place t ps at _ e = cc

pub list_whole : (rules : Rules) (start : ℕ) (frame : Frame) (bs : List Begun) (place : Place) (t : TermValue) (ps : List (ℕ × Token)) (at : ℕ)
    → IsAt rules (record { start = start; frame = frame } ∷ bs) place ps → list_term frame (last_part place) ≡ Some t
    → IsWhole rules bs start t (ps ++ (at, mark CloseList) ∷ [])
list_whole rules start (in_list parts) bs opened t ps at (levels, (outer, parted, empty, outside)) e =
    whole_as rules bs start nil t _ e
    (whole_at_once rules levels start (in_list parts) bs nil outer ps at CloseList parted outside (λ rest. inl (refl, refl)))
list_whole rules start (in_list parts) bs (after s u) t ps at is e =
    whole_as rules bs start (chain (parts ++ u ∷ []) nil) t _ e
    (part_whole rules start (in_list parts) bs _ s u ps at CloseList is.0 (λ Part inside own. list_closed rules Part parts u inside own))
list_whole rules start (in_tail parts) bs (after s u) t ps at is e =
    whole_as rules bs start (chain parts u) t _ e
    (part_whole rules start (in_tail parts) bs _ s u ps at CloseList is.0 (λ Part inside own. tail_closed rules Part parts u inside own))
list_whole rules start frame bs place t ps at _ e = cc

pub bits_whole : (rules : Rules) (start : ℕ) (frame : Frame) (bs : List Begun) (place : Place) (t : TermValue) (ps : List (ℕ × Token)) (at : ℕ)
    → IsAt rules (record { start = start; frame = frame } ∷ bs) place ps → bits_term frame place ≡ Some t
    → IsWhole rules bs start t (ps ++ (at, mark CloseBits) ∷ [])
bits_whole rules start (in_bits own) bs opened t ps at (levels, (outer, parted, empty, outside)) e =
    whole_as rules bs start (bits own) t _ e
    (whole_at_once rules levels start (in_bits own) bs (bits own) outer ps at CloseBits parted outside (λ rest. inl (ap bits empty, refl)))
bits_whole rules start (in_bits own) bs (value s v) t ps at (levels, before, late, parted, range, so_far) e =
    whole_as rules bs start (bits (own ++ last_bits 8 v)) t _ e
    (now_whole rules levels start (in_bits own) bs _ before ((late, number v) ∷ []) ps at CloseBits parted so_far
    (λ inside is. bits_closed rules (Text rules levels) own (last_bits 8 v) inside (number v ∷ []) is (λ rest. inl (inl (v, refl, range, refl)))))
bits_whole rules start (in_bits own) bs segment t ps at (levels, before, late, cs, old, parted, same, range, so_far) e =
    whole_as rules bs start (bits (old ++ flat_map byte_bits cs)) t _ (ap (λ f. bits_term f segment) (sym same) ∙ e)
    (now_whole rules levels start (in_bits old) bs _ before ((late, string cs) ∷ []) ps at CloseBits parted so_far
    (λ inside is. bits_closed rules (Text rules levels) old (flat_map byte_bits cs) inside (string cs ∷ []) is (λ rest. inl (inr (cs, refl, range, refl)))))
bits_whole rules start (in_bits own) bs (sized last) t ps at (levels, before, late, later, latest, v, n, parted, range, same, so_far) e =
    whole_as rules bs start (bits (own ++ last)) t _ e
    (now_whole rules levels start (in_bits own) bs _ before ((late, number v) ∷ (later, mark Colon) ∷ (latest, number n) ∷ []) ps at CloseBits parted so_far
    (λ inside is. bits_closed rules (Text rules levels) own last inside (number v ∷ mark Colon ∷ number n ∷ []) is
    (λ rest. inr (v, n, refl, range, same))))
bits_whole rules start frame bs place t ps at _ e = cc
