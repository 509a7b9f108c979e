-- What a token that was taken tells of the nest in front of it.
use Rattle.std.proofs.Common.{◌≡◌, ℕ, ◌<◌, Bool, true, false, cond, not, ◌&&◌, nat_lt, Option, Some, None, is_none, Ok, Err, List, [], ◌∷◌, length, refl}
use Rattle.std.proofs.lemmas.Bool.{ltb-true}
use Rattle.dets_term.specs.TermValue.{TermValue}
use Rattle.text_model.specs.declared.fault.TextWhy.{TextWhy}
use Rattle.text_model.specs.declared.fault.TextWhy.TheVariants.{BadToken, Depth}
use Rattle.text_model.specs.Grammar.{Rules}
use Rattle.text_model.specs.Nest.{Frame, Begun, opened, after, Nest, Taken, at_segment, wants, refusal, may_hold, string_refusal, completed, leaf}
use Rattle.text_model.specs.Nest.{open_term, closed}

-- a test that lets something through did not hold
pub cond_ok : (b : Bool) (fault : ℕ × TextWhy) (n m : Nest) → cond {A = Taken} b (Err fault) (Ok n) ≡ Ok m → (b ≡ false) × (n ≡ m)
cond_ok true fault n m e = cc
cond_ok false fault n m e = (refl, (let same : n ≡ m = cc in same))

-- what is asked holds where a test let something through
pub asked_holds : (asked holds : Bool) → (asked && not holds) ≡ false → asked ≡ true → holds ≡ true
asked_holds asked true e a = refl
asked_holds true false e a = cc
asked_holds false false e a = cc

completed_is : (rules : Rules) (bs : List Begun) (start : ℕ) (t : TermValue) (m : Nest) → completed rules bs start t ≡ Ok m
    → record { begun = bs; place = after start t } ≡ m
completed_is rules bs start t m e = (cond_ok _ _ (record { begun = bs; place = after start t }) m e).1

pub leaf_is : (rules : Rules) (n : Nest) (at : ℕ) (t : TermValue) (o : Option TextWhy) (m : Nest) → leaf rules n at t o ≡ Ok m
    → (o ≡ None) × (record { begun = n.begun; place = after at t } ≡ m)
leaf_is rules n at t None m e = (refl, completed_is rules n.begun at t m e)
leaf_is rules n at t (Some why) m e = cc

pub open_term_is : (rules : Rules) (n : Nest) (at : ℕ) (frame : Frame) (o : Option TextWhy) (m : Nest) → open_term rules n at frame o ≡ Ok m
    → (o ≡ None) × (record { begun = record { start = at; frame = frame } ∷ n.begun; place = opened } ≡ m)
open_term_is rules n at frame None m e = (refl, cc)
open_term_is rules n at frame (Some why) m e = cc

pub closed_is : (rules : Rules) (bs : List Begun) (start : ℕ) (o : Option TermValue) (at : ℕ) (m : Nest) → closed rules bs start o at ≡ Ok m
    → (t : TermValue) × (o ≡ Some t) × (record { begun = bs; place = after start t } ≡ m)
closed_is rules bs start (Some t) at m e = (t, refl, completed_is rules bs start t m e)
closed_is rules bs start None at m e = cc

-- where a term may begin
pub may_begin_at : (rules : Rules) (n : Nest) → refusal rules n ≡ None → (wants n.place ≡ true) × (at_segment n.begun ≡ false)
    × (length n.begun < rules.levels)
may_begin_at rules n e =
    let parts = by_tests (wants n.place) (at_segment n.begun) (nat_lt (length n.begun) rules.levels) e in
    (parts.0, parts.1, ltb-true (length n.begun) rules.levels parts.2)
  where
    by_tests : (a b c : Bool) → cond {A = Option TextWhy} (a && not b) (cond c None (Some Depth)) (Some BadToken) ≡ None
        → (a ≡ true) × (b ≡ false) × (c ≡ true)
    by_tests true false true e = (refl, refl, refl)
    by_tests true false false e = cc
    by_tests true true c e = cc
    by_tests false b c e = cc

-- where a string with characters may
pub string_parts : (o : Option TextWhy) (holds : Bool) → cond (is_none o && not holds) (Some Depth) o ≡ None → (o ≡ None) × (holds ≡ true)
string_parts None true e = (refl, refl)
string_parts None false e = cc
string_parts (Some why) holds e = cc

pub string_holds : (o : Option TextWhy) (holds : Bool) → o ≡ None → holds ≡ true → cond (is_none o && not holds) (Some Depth) o ≡ None
string_holds o holds e f = rw (e, f)

pub string_may_begin : (rules : Rules) (n : Nest) (cs : List ℕ) → string_refusal rules n cs ≡ None → refusal rules n ≡ None
string_may_begin rules n [] e = e
string_may_begin rules n (c ∷ cs) e = (string_parts (refusal rules n) (may_hold rules n) e).0
