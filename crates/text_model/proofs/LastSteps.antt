-- What the last of some tokens that are taken leaves: a place that tells which token it was.
use Rattle.std.proofs.Common.{◌≡◌, ℕ, ℤ, ◌<◌, Bool, true, false, cond, Option, Some, None, Ok, List, [], ◌∷◌, length, refl, subst, arith}
use Rattle.std.specs.List.{flat_map}
use Rattle.dets_term.specs.TermValue.{TermValue, integer, atom}
use Rattle.dets_term.specs.BitString.{byte_bits}
use Rattle.etf_model.specs.Layout.{integers}
use Rattle.text_model.specs.declared.mark.Mark.{Mark}
use Rattle.text_model.specs.declared.mark.Mark.TheVariants.{OpenTuple, OpenMap, CloseBrace, OpenList, CloseList, OpenBits, CloseBits, Bar, Comma}
use Rattle.text_model.specs.declared.mark.Mark.TheVariants.{Arrow, Colon, FullStop}
use Rattle.text_model.specs.declared.fault.TextWhy.{TextWhy}
use Rattle.text_model.specs.Token.{Token, mark, number, plain, quoted, string}
use Rattle.text_model.specs.Grammar.{Rules, sized_bits}
use Rattle.text_model.specs.Nest.{Frame, in_tuple, in_list, in_map, in_bits, Begun, Place, want, after, value, colon, segment, sized, stopped, Nest}
use Rattle.text_model.specs.Nest.{refusal, grown, wants_segment, leaf, open_term, close, last_part, brace_term, list_term, bits_term}
use Rattle.text_model.specs.Nest.{frame_after_comma, frame_after_bar, frame_after_arrow, changed_to, change, take_segment, take_bytes, number_at}
use Rattle.text_model.specs.Nest.{string_refusal, take_colon, take_stop, take_mark, take}
use Rattle.text_model.proofs.Refused.{cond_ok, leaf_is, open_term_is, closed_is}

-- ---- one token

-- behind a token that was taken at a nest, by the place
abbrev pub IsLeft : Nest → ℕ → Token → List Begun → Place → Type 0
IsLeft n at token bs want = 0 < length bs
IsLeft n at token bs (value start v) = (start ≡ at) × (token ≡ number v)
IsLeft n at token bs (colon start v) = (token ≡ mark Colon) × (n.place ≡ value start v)
IsLeft n at token bs (stopped t) = token ≡ mark FullStop
IsLeft n at token bs other = Unit {0}

abbrev IsLeftBy : Nest → ℕ → Token → Nest → Type 0
IsLeftBy n at token m = IsLeft n at token m.begun m.place

left_same : (n : Nest) (at : ℕ) (token : Token) (k m : Nest) → k ≡ m → IsLeftBy n at token k → IsLeftBy n at token m
left_same n at token k m e l = subst (λ j. IsLeftBy n at token j) e l

left_leaf : (rules : Rules) (n m : Nest) (at : ℕ) (token : Token) (t : TermValue) (o : Option TextWhy) → leaf rules n at t o ≡ Ok m → IsLeftBy n at token m
left_leaf rules n m at token t o e = left_same n at token _ m (leaf_is rules n at t o m e).1 tt

left_open : (rules : Rules) (n m : Nest) (at : ℕ) (token : Token) (frame : Frame) → open_term rules n at frame (refusal rules n) ≡ Ok m
    → IsLeftBy n at token m
left_open rules n m at token frame e = left_same n at token _ m (open_term_is rules n at frame (refusal rules n) m e).1 tt

left_close : (rules : Rules) (term : Frame → Place → Option TermValue) (n m : Nest) (at : ℕ) (token : Token) (bs : List Begun)
    → close rules term n at bs ≡ Ok m → IsLeftBy n at token m
left_close rules term n m at token [] e = cc
left_close rules term n m at token (b ∷ bs) e = left_same n at token _ m (closed_is rules bs b.start (term b.frame n.place) at m e).2 tt

left_changed : (n m : Nest) (at : ℕ) (token : Token) (b : Begun) (bs : List Begun) (o : Option Frame) → changed_to b bs o at ≡ Ok m → IsLeftBy n at token m
left_changed n m at token b bs None e = cc
left_changed n m at token b bs (Some frame) e =
    let same : record { begun = record b { frame = frame } ∷ bs; place = want } ≡ m = cc in left_same n at token _ m same (omega arith)

left_change : (next : Frame → Place → Option Frame) (n m : Nest) (at : ℕ) (token : Token) (bs : List Begun) → change next n at bs ≡ Ok m
    → IsLeftBy n at token m
left_change next n m at token [] e = cc
left_change next n m at token (b ∷ bs) e = left_changed n m at token b bs (next b.frame n.place) e

left_colon : (rules : Rules) (n m : Nest) (at : ℕ) (place : Place) → n.place ≡ place → take_colon rules n at place ≡ Ok m → IsLeftBy n at (mark Colon) m
left_colon rules n m at (value start v) f e = left_same n at (mark Colon) _ m (cond_ok _ _ (record n { place = colon start v }) m e).1 (refl, f)
left_colon rules n m at other f e = cc

left_stop : (n m : Nest) (at : ℕ) (bs : List Begun) (place : Place) → take_stop at bs place ≡ Ok m → IsLeftBy n at (mark FullStop) m
left_stop n m at [] (after start t) e =
    let same : record { begun = []; place = stopped t } ≡ m = cc in left_same n at (mark FullStop) _ m same refl
left_stop n m at bs place e = cc

left_segment : (rules : Rules) (n m : Nest) (at : ℕ) (v : ℤ) → take_segment rules n at v ≡ Ok m → IsLeftBy n at (number v) m
left_segment rules n m at v e = left_same n at (number v) _ m (cond_ok _ _ (record n { place = value at v }) m e).1 (refl, refl)

left_number_at : (rules : Rules) (n m : Nest) (at : ℕ) (z : ℤ) (place : Place) → number_at rules n at z place ≡ Ok m → IsLeftBy n at (number z) m
left_number_at rules n m at z (colon start v) e =
    left_same n at (number z) _ m (cond_ok _ _ (record n { place = sized (sized_bits v z) }) m e).1 tt
left_number_at rules n m at z other e = left_leaf rules n m at (number z) (integer z) (refusal rules n) e

left_number : (rules : Rules) (n m : Nest) (at : ℕ) (z : ℤ) (b : Bool)
    → cond b (take_segment rules n at z) (number_at rules n at z n.place) ≡ Ok m → IsLeftBy n at (number z) m
left_number rules n m at z true e = left_segment rules n m at z e
left_number rules n m at z false e = left_number_at rules n m at z n.place e

left_string : (rules : Rules) (n m : Nest) (at : ℕ) (cs : List ℕ) (b : Bool)
    → cond b (take_bytes rules n at cs) (leaf rules n at (integers cs) (string_refusal rules n cs)) ≡ Ok m → IsLeftBy n at (string cs) m
left_string rules n m at cs true e =
    left_same n at (string cs) _ m (cond_ok _ _ (record { begun = grown n.begun (flat_map byte_bits cs); place = segment }) m e).1 tt
left_string rules n m at cs false e = left_leaf rules n m at (string cs) (integers cs) (string_refusal rules n cs) e

left_mark : (rules : Rules) (n m : Nest) (at : ℕ) (k : Mark) → take_mark rules n at k ≡ Ok m → IsLeftBy n at (mark k) m
left_mark rules n m at OpenTuple e = left_open rules n m at (mark OpenTuple) (in_tuple []) e
left_mark rules n m at OpenMap e = left_open rules n m at (mark OpenMap) (in_map []) e
left_mark rules n m at OpenList e = left_open rules n m at (mark OpenList) (in_list []) e
left_mark rules n m at OpenBits e = left_open rules n m at (mark OpenBits) (in_bits []) e
left_mark rules n m at CloseBrace e = left_close rules (λ frame place. brace_term frame (last_part place)) n m at (mark CloseBrace) n.begun e
left_mark rules n m at CloseList e = left_close rules (λ frame place. list_term frame (last_part place)) n m at (mark CloseList) n.begun e
left_mark rules n m at CloseBits e = left_close rules bits_term n m at (mark CloseBits) n.begun e
left_mark rules n m at Bar e = left_change frame_after_bar n m at (mark Bar) n.begun e
left_mark rules n m at Comma e = left_change frame_after_comma n m at (mark Comma) n.begun e
left_mark rules n m at Arrow e = left_change frame_after_arrow n m at (mark Arrow) n.begun e
left_mark rules n m at Colon e = left_colon rules n m at n.place refl e
left_mark rules n m at FullStop e = left_stop n m at n.begun n.place e

pub left_by : (rules : Rules) (n m : Nest) (at : ℕ) (token : Token) → take rules n at token ≡ Ok m → IsLeft n at token m.begun m.place
left_by rules n m at (mark k) e = left_mark rules n m at k e
left_by rules n m at (number z) e = left_number rules n m at z (wants_segment n) e
left_by rules n m at (plain cs) e = left_leaf rules n m at (plain cs) (atom cs) (refusal rules n) e
left_by rules n m at (quoted cs) e = left_leaf rules n m at (quoted cs) (atom cs) (refusal rules n) e
left_by rules n m at (string cs) e = left_string rules n m at cs (wants_segment n) e
