-- The terms that closing marks make are within the limits of terms.
use Rattle.std.proofs.Common.{◌≡◌, ℕ, ◌+◌, ◌*◌, ◌<◌, ◌≤◌, ◌^◌, true, cond, nat_lt, Result, Ok, Err, IfOk, List, [], ◌∷◌, ◌++◌, length, length-append}
use Rattle.std.proofs.Common.{map, pos, flat_map, ap, ◌∙◌, sym, arith}
use Rattle.std.proofs.lemmas.List.{length-map}
use Rattle.std.proofs.lemmas.Bool.Decides.{nat_tests}
use Rattle.dets_term.specs.declared.TermFault.{TermFault}
use Rattle.dets_term.specs.declared.TermFault.TheVariants.{ManyParts}
use Rattle.dets_term.specs.TermValue.{TermValue, integer, nil, bits, chain, elements}
use Rattle.etf_model.specs.Layout.{integers}
use Rattle.dets_term.specs.BitString.{byte_bits, bits_of}
use Rattle.dets_term.specs.IsTerm.{bits_built}
use Rattle.dets_term.specs.Parts.{deepest, deepest-push}
use Rattle.dets_term.specs.PairOrder.{length-placed, deepest-placed}
use Rattle.dets_term.specs.Pairs.{placed}
use Rattle.text_model.specs.Nest.{in_value}
use Rattle.text_nest.specs.Fits.{FrameFits, PartFits, PairsFit, PartsFit}

pub parts_with : (ts : List TermValue) (t : TermValue) → (deepest ts < 256) × (length ts < 2 ^ 31) → PartFits t → PartsFit (ts ++ t ∷ [])
parts_with ts t h p = (omega (arith, deepest-push ts t, h.0, p.shallow), omega (arith, length-append ts (t ∷ []), h.1))

pub pairs_with : (pairs : List (TermValue × TermValue)) (k v : TermValue) → FrameFits (in_value pairs k) → PartFits v → PairsFit (placed (k, v) pairs)
pairs_with pairs k v f p =
    let deep = f.shallow in
    let few = f.light in
    (omega (arith, deepest-placed (k, v) pairs, deep, p.shallow), omega (arith, length-placed (k, v) pairs, few))

pub length-joined : (ts : List TermValue) (tail : TermValue) → length (elements (chain ts tail)) ≡ length ts + length (elements tail)
length-joined [] tail = omega arith
length-joined (t ∷ ts) tail = let rest = length-joined ts tail in omega arith

-- a term that is made is the one that it is to be
pub made_term : {E : Type 0} (made : Result TermValue TermFault) (r : Result TermValue E) (t : TermValue) → made ≡ Ok t
    → IfOk r (λ u. made ≡ Ok u) → IfOk r (λ u. u ≡ t)
made_term made (Ok u) t e f = let same : Ok t ≡ Ok u = sym e ∙ f in cc
made_term made (Err x) t e f = tt

-- ---- bit strings

pub bits_made : (bytes : List ℕ) (used : ℕ) → length bytes < 2 ^ 32 → bits_built bytes used ≡ Ok (bits (bits_of bytes used))
bits_made bytes used few =
    let test : nat_lt (length bytes) (2 ^ 32) ≡ true = grind (arith, nat_tests) in
    ap (λ b. cond {A = Result TermValue TermFault} b (Ok (bits (bits_of bytes used))) (Err ManyParts)) test

pub length-bits : (bytes : List ℕ) → length (flat_map byte_bits bytes) ≡ 8 * length bytes
length-bits [] = omega arith
length-bits (x ∷ bytes) = omega (arith, length-append (byte_bits x) (flat_map byte_bits bytes), length-bits bytes)

pub few_bytes : (bytes : List ℕ) → length (flat_map byte_bits bytes) < 2 ^ 31 → length bytes < 2 ^ 31
few_bytes bytes h = omega (arith, length-bits bytes)

-- ---- strings

pub deepest-integers : (cs : List ℕ) → deepest (map (λ c. integer (pos c)) cs) ≤ 1
deepest-integers [] = omega arith
deepest-integers (c ∷ cs) = let rest = deepest-integers cs in omega arith

pub integers_fit : (cs all : List ℕ) → cs ≡ all → length all < 2 ^ 31 → PartsFit (map (λ c. integer (pos c)) cs)
integers_fit cs all e few = (omega (arith, deepest-integers cs), omega (arith, length-map cs (λ c. integer (pos c)), ap length e))

-- a list of code points that is made is the one of a text
pub list_is : {E : Type 0} (r : Result TermValue E) (parts : List TermValue) (cs all : List ℕ) → parts ≡ map (λ c. integer (pos c)) cs → cs ≡ all
    → IfOk r (λ t. t ≡ chain parts nil) → IfOk r (λ t. t ≡ integers all)
list_is (Ok t) parts cs all e same is = is ∙ ap (λ ts. chain ts nil) (e ∙ ap (map (λ c. integer (pos c))) same)
list_is (Err x) parts cs all e same is = tt
