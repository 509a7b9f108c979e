-- Each nest that some tokens lead to is as it should be.
use Rattle.std.proofs.Common.{◌≡◌, ℕ, ◌≤◌, ℤ, pos, Bool, true, false, cond, Ok, List, [], ◌∷◌, inr, refl, ◌∙◌, subst, arith}
use Rattle.std.proofs.lemmas.Bool.{and_parts}
use Rattle.std.specs.List.{flat_map}
use Rattle.dets_term.specs.TermValue.{integer, atom}
use Rattle.dets_term.specs.BitString.{byte_bits}
use Rattle.etf_model.specs.Layout.{integers}
use Rattle.text_model.specs.declared.mark.Mark.{Mark}
use Rattle.text_model.specs.declared.mark.Mark.TheVariants.{OpenTuple, OpenMap, CloseBrace, OpenList, CloseList, OpenBits, CloseBits, Bar, Comma}
use Rattle.text_model.specs.declared.mark.Mark.TheVariants.{Arrow, Colon, FullStop}
use Rattle.text_model.specs.Token.{Token, mark, number, plain, quoted, string}
use Rattle.text_model.specs.Grammar.{Rules, is_sized, sized_bits}
use Rattle.text_model.specs.Nest.{in_tuple, in_list, in_map, in_bits, Begun, Place, after, value, colon, segment, sized, stopped, Nest, fresh}
use Rattle.text_model.specs.Nest.{at_segment, wants, refusal, wants_segment, leaf, grown, take_segment, take_size, take_bytes, number_at}
use Rattle.text_model.specs.Nest.{string_refusal, last_part, brace_term, list_term, bits_term, frame_after_comma, frame_after_bar, frame_after_arrow}
use Rattle.text_model.specs.Nest.{take_colon, take_stop, take_mark, take}
use Rattle.text_model.specs.Located.{take_all}
use Rattle.text_model.proofs.TakenSteps.{taken_before}
use Rattle.text_model.proofs.Refused.{cond_ok, asked_holds, string_may_begin}
use Rattle.text_model.proofs.ReachedNests.{IsPlaced, IsReached, at_segment-grown, length-grown, outside-grown}
use Rattle.text_model.proofs.ReachedParts.{arrow_keeps, bar_keeps, comma_keeps, reached_change, reached_close, reached_leaf, reached_open}

-- ---- segments

reached_segment : (rules : Rules) (n m : Nest) (at : ℕ) (v : ℤ) → IsReached rules n → at_segment n.begun ≡ true → take_segment rules n at v ≡ Ok m
    → IsReached rules m
reached_segment rules n m at v r s e =
    subst (λ k. IsReached rules k) (cond_ok _ _ (record n { place = value at v }) m e).1
    (record { outside = r.outside; shallow = r.shallow; placed = s })

reached_colon : (rules : Rules) (n m : Nest) (at : ℕ) (place : Place) → IsReached rules n → IsPlaced rules n.begun place
    → take_colon rules n at place ≡ Ok m → IsReached rules m
reached_colon rules n m at (value start v) r s e =
    let is = cond_ok _ _ (record n { place = colon start v }) m e in
    subst (λ k. IsReached rules k) is.1
    (record { outside = r.outside; shallow = r.shallow; placed = (s, asked_holds rules.ranged (is_sized v (pos 7)) is.0) })
reached_colon rules n m at other r s e = cc

-- behind more bits
reached_grown : (rules : Rules) (n : Nest) (more : List Bool) (place : Place) → IsReached rules n → at_segment n.begun ≡ true
    → ((bs : List Begun) → at_segment bs ≡ true → IsPlaced rules bs place) → IsReached rules (record { begun = grown n.begun more; place = place })
reached_grown rules n more place r s p = record {
  outside = outside-grown n.begun more r.outside;
  shallow = rw (length-grown n.begun more) r.shallow;
  placed = p (grown n.begun more) (at_segment-grown n.begun more ∙ s);
}

reached_size : (rules : Rules) (n m : Nest) (at : ℕ) (v size : ℤ) → IsReached rules n → at_segment n.begun ≡ true → take_size rules n at v size ≡ Ok m
    → IsReached rules m
reached_size rules n m at v size r s e =
    subst (λ k. IsReached rules k) (cond_ok _ _ (record n { place = sized (sized_bits v size) }) m e).1
    (record { outside = r.outside; shallow = r.shallow; placed = s })

reached_bytes : (rules : Rules) (n m : Nest) (at : ℕ) (cs : List ℕ) → IsReached rules n → at_segment n.begun ≡ true → take_bytes rules n at cs ≡ Ok m
    → IsReached rules m
reached_bytes rules n m at cs r s e =
    subst (λ k. IsReached rules k) (cond_ok _ _ (record { begun = grown n.begun (flat_map byte_bits cs); place = segment }) m e).1
    (reached_grown rules n (flat_map byte_bits cs) segment r s (λ bs is. is))

-- ---- tokens

reached_number_at : (rules : Rules) (n m : Nest) (at : ℕ) (z : ℤ) (place : Place) → IsReached rules n → IsPlaced rules n.begun place
    → number_at rules n at z place ≡ Ok m → IsReached rules m
reached_number_at rules n m at z (colon start v) r p e = reached_size rules n m start v z r p.0 e
reached_number_at rules n m at z other r p e = reached_leaf rules n m at (integer z) (refusal rules n) (λ q. q) r e

reached_number : (rules : Rules) (n m : Nest) (at : ℕ) (z : ℤ) (b : Bool) → wants_segment n ≡ b → IsReached rules n
    → cond b (take_segment rules n at z) (number_at rules n at z n.place) ≡ Ok m → IsReached rules m
reached_number rules n m at z true s r e = reached_segment rules n m at z r (and_parts (wants n.place) (at_segment n.begun) s).1 e
reached_number rules n m at z false s r e = reached_number_at rules n m at z n.place r r.placed e

reached_string : (rules : Rules) (n m : Nest) (at : ℕ) (cs : List ℕ) (b : Bool) → wants_segment n ≡ b → IsReached rules n
    → cond b (take_bytes rules n at cs) (leaf rules n at (integers cs) (string_refusal rules n cs)) ≡ Ok m → IsReached rules m
reached_string rules n m at cs true s r e = reached_bytes rules n m at cs r (and_parts (wants n.place) (at_segment n.begun) s).1 e
reached_string rules n m at cs false s r e =
    reached_leaf rules n m at (integers cs) (string_refusal rules n cs) (string_may_begin rules n cs) r e

reached_stop : (rules : Rules) (at : ℕ) (bs : List Begun) (place : Place) (m : Nest) → take_stop at bs place ≡ Ok m → IsReached rules m
reached_stop rules at [] (after start t) m e =
    let same : record { begun = []; place = stopped t } ≡ m = cc in
    subst (λ k. IsReached rules k) same (record { outside = tt; shallow = omega arith; placed = refl })
reached_stop rules at bs place m e = cc

reached_mark : (rules : Rules) (n m : Nest) (at : ℕ) (k : Mark) → IsReached rules n → take_mark rules n at k ≡ Ok m → IsReached rules m
reached_mark rules n m at OpenTuple r e = reached_open rules n m at (in_tuple []) refl r e
reached_mark rules n m at OpenMap r e = reached_open rules n m at (in_map []) refl r e
reached_mark rules n m at OpenList r e = reached_open rules n m at (in_list []) refl r e
reached_mark rules n m at OpenBits r e = reached_open rules n m at (in_bits []) refl r e
reached_mark rules n m at CloseBrace r e =
    reached_close rules (λ frame place. brace_term frame (last_part place)) n m at n.begun r.outside r.shallow e
reached_mark rules n m at CloseList r e =
    reached_close rules (λ frame place. list_term frame (last_part place)) n m at n.begun r.outside r.shallow e
reached_mark rules n m at CloseBits r e = reached_close rules bits_term n m at n.begun r.outside r.shallow e
reached_mark rules n m at Bar r e = reached_change rules frame_after_bar n m at n.begun bar_keeps r.outside r.shallow r.placed e
reached_mark rules n m at Comma r e = reached_change rules frame_after_comma n m at n.begun comma_keeps r.outside r.shallow r.placed e
reached_mark rules n m at Arrow r e = reached_change rules frame_after_arrow n m at n.begun arrow_keeps r.outside r.shallow r.placed e
reached_mark rules n m at Colon r e = reached_colon rules n m at n.place r r.placed e
reached_mark rules n m at FullStop r e = reached_stop rules at n.begun n.place m e

pub reached_take : (rules : Rules) (n m : Nest) (at : ℕ) (token : Token) → IsReached rules n → take rules n at token ≡ Ok m → IsReached rules m
reached_take rules n m at (mark k) r e = reached_mark rules n m at k r e
reached_take rules n m at (number z) r e = reached_number rules n m at z (wants_segment n) refl r e
reached_take rules n m at (plain cs) r e = reached_leaf rules n m at (atom cs) (refusal rules n) (λ q. q) r e
reached_take rules n m at (quoted cs) r e = reached_leaf rules n m at (atom cs) (refusal rules n) (λ q. q) r e
reached_take rules n m at (string cs) r e = reached_string rules n m at cs (wants_segment n) refl r e

reached_all : (rules : Rules) (n m : Nest) (ps : List (ℕ × Token)) → IsReached rules n → take_all rules n ps ≡ Ok m → IsReached rules m
reached_all rules n m [] r e = let same : n ≡ m = cc in subst (λ k. IsReached rules k) same r
reached_all rules n m (p ∷ ps) r e =
    let first = taken_before (take rules n p.0 p.1) (λ k. take_all rules k ps) m e in
    reached_all rules first.0 m ps (reached_take rules n first.0 p.0 p.1 r first.1) first.2

-- each nest that tokens lead to from the first one
pub reached : (rules : Rules) (n : Nest) (ps : List (ℕ × Token)) → 1 ≤ rules.levels → take_all rules fresh ps ≡ Ok n → IsReached rules n
reached rules n ps h e =
    reached_all rules fresh n ps (record { outside = tt; shallow = omega arith; placed = inr (refl, h) }) e
