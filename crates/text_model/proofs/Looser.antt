-- Looser rules take what stricter ones take.
use Rattle.std.proofs.Common.{◌≡◌, ℕ, ◌≤◌, ℤ, Bool, true, false, cond, ◌&&◌, ◌||◌, ◌+◌, nat_lt, Option, Some, None, Ok, Err, List, [], ◌∷◌, length}
use Rattle.std.proofs.Common.{refl, ap, ◌∙◌, arith}
use Rattle.std.proofs.lemmas.Bool.{ltb-true, lt-ltb}
use Rattle.dets_term.specs.TermValue.{TermValue, integer, atom}
use Rattle.etf_model.specs.Layout.{integers}
use Rattle.text_model.specs.declared.fault.TextWhy.{TextWhy}
use Rattle.text_model.specs.declared.mark.Mark.{Mark}
use Rattle.text_model.specs.declared.mark.Mark.TheVariants.{OpenTuple, OpenMap, CloseBrace, OpenList, CloseList, OpenBits, CloseBits, Colon}
use Rattle.text_model.specs.Token.{Token, mark, number, plain, quoted, string}
use Rattle.text_model.specs.Grammar.{Rules, strict, formal}
use Rattle.text_model.specs.Nest.{Frame, in_tuple, in_list, in_map, in_bits, Begun, Place, colon, value, Nest, Taken, completed, leaf, open_term}
use Rattle.text_model.specs.Nest.{refusal, at_segment, may_hold, closed, close, take_segment, take_bytes, number_at, string_refusal, take_colon}
use Rattle.text_model.specs.Nest.{take_mark, last_part, brace_term, list_term, bits_term, wants_segment, take, fresh}
use Rattle.text_model.specs.Located.{take_next, take_all}
use Rattle.text_model.specs.Faults.{with_repeats}
use Rattle.text_model.proofs.TakenSteps.{taken_before}
use Rattle.text_model.proofs.Refused.{cond_ok, open_term_is, may_begin_at, string_parts, string_holds}

-- rules that ask no more than others do
pub record IsLooser (less more : Rules) : Type 0 where
  pub levels : more.levels ≤ less.levels
  pub distinct : less.distinct ≡ true → more.distinct ≡ true
  pub ranged : less.ranged ≡ true → more.ranged ≡ true

-- a test that asks less lets through what one lets through that asks more
asks_less : (less more holds : Bool) → (less ≡ true → more ≡ true) → (more && holds) ≡ false → (less && holds) ≡ false
asks_less false more holds f e = refl
asks_less true true holds f e = e
asks_less true false holds f e = let clash : false ≡ true = f refl in cc

cond_passes : (less more holds : Bool) (fault : ℕ × TextWhy) (n m : Nest) → (less ≡ true → more ≡ true)
    → cond {A = Taken} (more && holds) (Err fault) (Ok n) ≡ Ok m → cond {A = Taken} (less && holds) (Err fault) (Ok n) ≡ Ok m
cond_passes less more holds fault n m f e =
    let is = cond_ok (more && holds) fault n m e in
    ap (λ b. cond {A = Taken} b (Err fault) (Ok n)) (asks_less less more holds f is.0) ∙ ap Ok is.1

refusal_passes : (less more : Rules) (n : Nest) → IsLooser less more → refusal more n ≡ None → refusal less n ≡ None
refusal_passes less more n f e =
    let may = may_begin_at more n e in
    let levels = f.levels in
    let test = lt-ltb (length n.begun) less.levels (omega arith) in
    rw (may.0, may.1, test)

completed_passes : (less more : Rules) (bs : List Begun) (start : ℕ) (t : TermValue) (m : Nest) → IsLooser less more → completed more bs start t ≡ Ok m
    → completed less bs start t ≡ Ok m
completed_passes less more bs start t m f e = cond_passes less.distinct more.distinct _ _ _ m f.distinct e

leaf_passes : (less more : Rules) (n : Nest) (at : ℕ) (t : TermValue) (o p : Option TextWhy) (m : Nest) → IsLooser less more → (o ≡ None → p ≡ None)
    → leaf more n at t o ≡ Ok m → leaf less n at t p ≡ Ok m
leaf_passes less more n at t None p m f passes e =
    ap (leaf less n at t) (passes refl) ∙ completed_passes less more n.begun at t m f e
leaf_passes less more n at t (Some why) p m f passes e = cc

open_passes : (less more : Rules) (n : Nest) (at : ℕ) (frame : Frame) (m : Nest) → IsLooser less more
    → open_term more n at frame (refusal more n) ≡ Ok m → open_term less n at frame (refusal less n) ≡ Ok m
open_passes less more n at frame m f e =
    let is = open_term_is more n at frame (refusal more n) m e in
    ap (open_term less n at frame) (refusal_passes less more n f is.0) ∙ ap Ok is.1

close_passes : (less more : Rules) (term : Frame → Place → Option TermValue) (n : Nest) (at : ℕ) (bs : List Begun) (m : Nest) → IsLooser less more
    → close more term n at bs ≡ Ok m → close less term n at bs ≡ Ok m
close_passes less more term n at [] m f e = e
close_passes less more term n at (b ∷ bs) m f e = by_term (term b.frame n.place) e
  where
    by_term : (o : Option TermValue) → closed more bs b.start o at ≡ Ok m → closed less bs b.start o at ≡ Ok m
    by_term (Some t) e = completed_passes less more bs b.start t m f e
    by_term None e = e

-- ---- numbers and strings

number_at_passes : (less more : Rules) (n : Nest) (at : ℕ) (z : ℤ) (place : Place) (m : Nest) → IsLooser less more
    → number_at more n at z place ≡ Ok m → number_at less n at z place ≡ Ok m
number_at_passes less more n at z (colon start v) m f e = cond_passes less.ranged more.ranged _ _ _ m f.ranged e
number_at_passes less more n at z other m f e =
    leaf_passes less more n at (integer z) (refusal more n) (refusal less n) m f (refusal_passes less more n f) e

number_passes : (less more : Rules) (n : Nest) (at : ℕ) (z : ℤ) (b : Bool) (m : Nest) → IsLooser less more
    → cond b (take_segment more n at z) (number_at more n at z n.place) ≡ Ok m
    → cond b (take_segment less n at z) (number_at less n at z n.place) ≡ Ok m
number_passes less more n at z true m f e = cond_passes less.ranged more.ranged _ _ _ m f.ranged e
number_passes less more n at z false m f e = number_at_passes less more n at z n.place m f e

may_hold_passes : (less more : Rules) (n : Nest) → IsLooser less more → may_hold more n ≡ true → may_hold less n ≡ true
may_hold_passes less more n f e = by_test (at_segment n.begun) e
  where
    by_test : (b : Bool) → (b || nat_lt (length n.begun + 1) more.levels) ≡ true → (b || nat_lt (length n.begun + 1) less.levels) ≡ true
    by_test true e = refl
    by_test false e =
        let low = ltb-true (length n.begun + 1) more.levels e in
        let levels = f.levels in lt-ltb (length n.begun + 1) less.levels (omega arith)

string_refusal_passes : (less more : Rules) (n : Nest) (cs : List ℕ) → IsLooser less more → string_refusal more n cs ≡ None
    → string_refusal less n cs ≡ None
string_refusal_passes less more n [] f e = refusal_passes less more n f e
string_refusal_passes less more n (c ∷ cs) f e =
    let parts = string_parts (refusal more n) (may_hold more n) e in
    string_holds (refusal less n) (may_hold less n) (refusal_passes less more n f parts.0) (may_hold_passes less more n f parts.1)

string_passes_at : (less more : Rules) (n : Nest) (at : ℕ) (cs : List ℕ) (b : Bool) (m : Nest) → IsLooser less more
    → cond b (take_bytes more n at cs) (leaf more n at (integers cs) (string_refusal more n cs)) ≡ Ok m
    → cond b (take_bytes less n at cs) (leaf less n at (integers cs) (string_refusal less n cs)) ≡ Ok m
string_passes_at less more n at cs true m f e = cond_passes less.ranged more.ranged _ _ _ m f.ranged e
string_passes_at less more n at cs false m f e =
    leaf_passes less more n at (integers cs) (string_refusal more n cs) (string_refusal less n cs) m f (string_refusal_passes less more n cs f) e

-- ---- tokens

colon_passes : (less more : Rules) (n : Nest) (at : ℕ) (place : Place) (m : Nest) → IsLooser less more → take_colon more n at place ≡ Ok m
    → take_colon less n at place ≡ Ok m
colon_passes less more n at (value start v) m f e = cond_passes less.ranged more.ranged _ _ _ m f.ranged e
colon_passes less more n at other m f e = e

mark_passes : (less more : Rules) (n : Nest) (at : ℕ) (k : Mark) (m : Nest) → IsLooser less more → take_mark more n at k ≡ Ok m
    → take_mark less n at k ≡ Ok m
mark_passes less more n at OpenTuple m f e = open_passes less more n at (in_tuple []) m f e
mark_passes less more n at OpenMap m f e = open_passes less more n at (in_map []) m f e
mark_passes less more n at OpenList m f e = open_passes less more n at (in_list []) m f e
mark_passes less more n at OpenBits m f e = open_passes less more n at (in_bits []) m f e
mark_passes less more n at CloseBrace m f e = close_passes less more (λ frame place. brace_term frame (last_part place)) n at n.begun m f e
mark_passes less more n at CloseList m f e = close_passes less more (λ frame place. list_term frame (last_part place)) n at n.begun m f e
mark_passes less more n at CloseBits m f e = close_passes less more bits_term n at n.begun m f e
mark_passes less more n at Colon m f e = colon_passes less more n at n.place m f e
mark_passes less more n at other m f e = e

pub looser_take : (less more : Rules) (n : Nest) (at : ℕ) (token : Token) (m : Nest) → IsLooser less more → take more n at token ≡ Ok m
    → take less n at token ≡ Ok m
looser_take less more n at (mark k) m f e = mark_passes less more n at k m f e
looser_take less more n at (number z) m f e = number_passes less more n at z (wants_segment n) m f e
looser_take less more n at (plain cs) m f e =
    leaf_passes less more n at (atom cs) (refusal more n) (refusal less n) m f (refusal_passes less more n f) e
looser_take less more n at (quoted cs) m f e =
    leaf_passes less more n at (atom cs) (refusal more n) (refusal less n) m f (refusal_passes less more n f) e
looser_take less more n at (string cs) m f e = string_passes_at less more n at cs (wants_segment n) m f e

pub looser_take_all : (less more : Rules) (n : Nest) (ps : List (ℕ × Token)) (m : Nest) → IsLooser less more → take_all more n ps ≡ Ok m
    → take_all less n ps ≡ Ok m
looser_take_all less more n [] m f e = e
looser_take_all less more n (p ∷ ps) m f e =
    let first = taken_before (take more n p.0 p.1) (λ k. take_all more k ps) m e in
    ap (λ o. take_next o (λ k. take_all less k ps)) (looser_take less more n p.0 p.1 first.0 f first.1)
    ∙ looser_take_all less more first.0 ps m f first.2

-- ---- the rules by which texts and faults are told

pub repeating_is_looser : IsLooser with_repeats strict
repeating_is_looser = record { levels = omega arith; distinct = λ e. refl; ranged = λ e. e }

pub formal_is_looser : IsLooser (formal 256) with_repeats
formal_is_looser = record { levels = omega arith; distinct = λ e. e; ranged = λ e. refl }

pub IsLooser-trans : (least less more : Rules) → IsLooser least less → IsLooser less more → IsLooser least more
IsLooser-trans least less more f g =
    let low = f.levels in
    let high = g.levels in
    record { levels = omega arith; distinct = λ e. g.distinct (f.distinct e); ranged = λ e. g.ranged (f.ranged e) }

pub form_is_looser : IsLooser (formal 256) strict
form_is_looser = IsLooser-trans (formal 256) with_repeats strict formal_is_looser repeating_is_looser

pub repeating_taken : (ps : List (ℕ × Token)) (n : Nest) → take_all strict fresh ps ≡ Ok n → take_all with_repeats fresh ps ≡ Ok n
repeating_taken ps n e = looser_take_all with_repeats strict fresh ps n repeating_is_looser e

pub formal_taken : (ps : List (ℕ × Token)) (n : Nest) → take_all strict fresh ps ≡ Ok n → take_all (formal 256) fresh ps ≡ Ok n
formal_taken ps n e = looser_take_all (formal 256) strict fresh ps n form_is_looser e

pub deeper_taken : (ps : List (ℕ × Token)) (n : Nest) → take_all strict fresh ps ≡ Ok n → take_all (formal 257) fresh ps ≡ Ok n
deeper_taken ps n e = looser_take_all (formal 257) strict fresh ps n (record { levels = omega arith; distinct = λ e. refl; ranged = λ e. refl }) e
