-- Terms that are built within their limits.
use Rattle.std.proofs.Common.{◌≡◌, ℕ, zero, suc, ◌<◌, ◌≤◌, ◌^◌, pos, List, [], ◌∷◌, map, length, Result, Ok, Err, sym, refl, ap, ◌∙◌}
use Rattle.std.proofs.Common.{arith}
use Rattle.std.specs.Prelude.{IfOk, IfErr}
use Rattle.std.proofs.lemmas.List.{length-map}
use Rattle.dets_term.specs.TermValue.{TermValue, integer, nil, chain, depth}
use Rattle.dets_term.specs.IsTerm.{built}
use Rattle.dets_term.specs.Parts.{deepest, parts_depth-chain}
use Rattle.dets_term.specs.Limits.{built-within}
use Rattle.etf_model.specs.Layout.{integers}

-- what is Ok is no fault
pub IfErr-ok : {A E : Type 0} (r : Result A E) (x : A) (P : E → Type 0) → r ≡ Ok x → IfErr r P
IfErr-ok (Ok y) x P e = tt
IfErr-ok (Err fault) x P e = cc

deepest-integers : (bytes : List ℕ) → deepest (map (λ x. integer (pos x)) bytes) ≤ 1
deepest-integers [] = omega arith
deepest-integers (x ∷ bytes) = omega (arith, deepest-integers bytes)

-- the list of some bytes has at most two levels, and the empty one has one
pub depth-integers : (bytes : List ℕ) → depth (integers bytes) ≤ 2
depth-integers bytes = omega (arith, deepest-integers bytes, parts_depth-chain (map (λ x. integer (pos x)) bytes))

pub depth-integers_none : (bytes : List ℕ) → length bytes ≡ 0 → depth (integers bytes) ≤ 1
depth-integers_none [] h = omega arith
depth-integers_none (x ∷ bytes) h = absurd (omega arith)

pub built_integers : (parts : List TermValue) (bytes : List ℕ) → parts ≡ map (λ x. integer (pos x)) bytes → length bytes < 2 ^ 32
    → built (length parts) (chain parts nil) ≡ Ok (integers bytes)
built_integers parts bytes e short =
    ap (λ ts. built (length ts) (chain ts nil)) e
    ∙ built-within (length (map (λ x. integer (pos x)) bytes)) (integers bytes) (rw length-map short) (omega (arith, depth-integers bytes))

-- what was handed on is what was made
pub one_made : {A E : Type 0} (r : Result A E) (t x : A) → r ≡ Ok t → r ≡ Ok x → t ≡ x
one_made r t x e f = let same : Ok t ≡ Ok x = sym e ∙ f in cc

-- where no level is left for bytes there is none
pub depth-integers_levels : (bytes : List ℕ) (levels : ℕ) → (levels ≡ 0 → length bytes ≡ 0) → depth (integers bytes) ≤ suc levels
depth-integers_levels bytes zero h = omega (arith, depth-integers_none bytes (h refl))
depth-integers_levels bytes (suc levels) h = omega (arith, depth-integers bytes)

pub IfOk-shallow : {E : Type 0} (r : Result TermValue E) (value : TermValue) (n : ℕ) → IfOk r (λ t. t ≡ value) → depth value ≤ n → IfOk r (λ t. depth t ≤ n)
IfOk-shallow (Ok t) value n ok h = omega (arith, h, ap depth ok)
IfOk-shallow (Err fault) value n ok h = tt
