-- What an answer of `limited` says of the limits, and of the answer for another value.
use Rattle.std.proofs.Common.{◌≡◌, ℕ, suc, ◌<◌, ◌≤◌, ◌^◌, Bool, true, false, cond, nat_lt, nat_le, Ok, Err, refl, ap, ◌∙◌, sym}
use Rattle.std.proofs.lemmas.Bool.{ltb-true, leb-true}
use Rattle.term_model.specs.declared.term_fault.TermFault.{TermFault}
use Rattle.term_model.specs.declared.term_fault.TermFault.TheVariants.{Depth, ManyParts}
use Rattle.term_model.specs.TermValue.{TermValue, parts_depth}
use Rattle.term_model.specs.IsTerm.{limited, built}

picked_ok : {A : Type 0} (few shallow : Bool) (x y : A) → cond few (cond shallow (Ok x) (Err Depth)) (Err ManyParts) ≡ Ok y
    → (few ≡ true) × (shallow ≡ true) × (x ≡ y)
picked_ok true true x y e = (refl, refl, cc)
picked_ok true false x y e = cc
picked_ok false shallow x y e = cc

picked_err : {A B : Type 0} (few shallow : Bool) (x : A) (y : B) (f : TermFault) → cond few (cond shallow (Ok x) (Err Depth)) (Err ManyParts) ≡ Err f
    → cond few (cond shallow (Ok y) (Err Depth)) (Err ManyParts) ≡ Err f
picked_err true true x y f e = cc
picked_err true false x y f e = cc
picked_err false shallow x y f e = cc

-- the limits hold where a value is answered
pub limited_ok : {A : Type 0} (parts levels : ℕ) (x y : A) → limited parts levels x ≡ Ok y → (parts < 2 ^ 32) × (levels ≤ 256) × (x ≡ y)
limited_ok parts levels x y e =
    let p = picked_ok (nat_lt parts (2 ^ 32)) (nat_le levels 256) x y e in
    (ltb-true parts (2 ^ 32) p.0, leb-true levels 256 p.1, p.2)

-- for a value of this depth the answer is the same, but for the value
pub built_ok : (parts levels d : ℕ) (t : TermValue) → parts_depth t ≡ d → Ok levels ≡ limited parts (suc d) (suc d) → Ok t ≡ built parts t
built_ok parts levels d t e h =
    let p = picked_ok (nat_lt parts (2 ^ 32)) (nat_le (suc d) 256) (suc d) levels (sym h) in
    sym (ap (λ k. limited parts (suc k) t) e ∙ ap (λ b. cond b (cond (nat_le (suc d) 256) (Ok t) (Err Depth)) (Err ManyParts)) p.0
    ∙ ap (λ b. cond b (Ok t) (Err Depth)) p.1)

pub built_err : (parts d : ℕ) (t : TermValue) (f : TermFault) → parts_depth t ≡ d → Err f ≡ limited parts (suc d) (suc d) → Err f ≡ built parts t
built_err parts d t f e h =
    sym (ap (λ k. limited parts (suc k) t) e ∙ picked_err (nat_lt parts (2 ^ 32)) (nat_le (suc d) 256) (suc d) t f (sym h))
