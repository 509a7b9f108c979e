-- The deepest of a list of terms or of pairs; then lemmas on a chain of terms as a list, its depth and its limits.
use Rattle.std.specs.Prelude.{◌≡◌, ℕ, zero, suc, ◌+◌, ◌*◌, ◌<◌, ◌≤◌, ◌^◌, Bool, true, false, cond, max, List, [], ◌∷◌, ◌++◌, map, length, refl, slice_get, Some}
use Rattle.std.specs.List.{AllByRecursion}
use Rattle.std.proofs.Common.{arith, ap, ◌∙◌}
use denote.Param.Weighed.{most}
use Rattle.term_model.specs.TermValue.{TermValue, integer, atom, tuple, mapping, nil, cons, bits, chain, map_of, elements, is_list, parts_depth, depth}
use Rattle.term_model.specs.IsTerm.{IsTerm, IsProper, IsBounded}

-- the greatest depth in a list of terms, 0 where it is empty
abbrev pub deepest : List TermValue → ℕ
deepest [] = 0
deepest (t ∷ ts) = max (depth t) (deepest ts)

-- each of them is a term
abbrev pub AreTerms : List TermValue → Type 0
AreTerms ts = AllByRecursion IsTerm ts

-- the greatest depth in a list of pairs, 0 where it is empty
abbrev pub deepest_of_pairs : List (TermValue × TermValue) → ℕ
deepest_of_pairs [] = 0
deepest_of_pairs (p ∷ ps) = max (max (depth p.0) (depth p.1)) (deepest_of_pairs ps)

-- each key and each value is a term
abbrev pub ArePairs : List (TermValue × TermValue) → Type 0
ArePairs ps = AllByRecursion (λ p. IsTerm p.0 × IsTerm p.1) ps

-- ---- lemmas

pub deepest-push : (ts : List TermValue) (t : TermValue) → deepest (ts ++ t ∷ []) ≡ max (deepest ts) (depth t)
deepest-push [] t = omega arith
deepest-push (u ∷ ts) t = let rest = deepest-push ts t in omega arith

pub is_list-chain : (ts : List TermValue) → is_list (chain ts nil) ≡ true
is_list-chain [] = refl
is_list-chain (t ∷ ts) = refl

pub parts_depth-chain : (ts : List TermValue) → parts_depth (chain ts nil) ≡ deepest ts
parts_depth-chain [] = refl
parts_depth-chain (t ∷ ts) = ap (λ b. max (depth t) (cond b (parts_depth (chain ts nil)) (suc (parts_depth (chain ts nil))))) (is_list-chain ts)
    ∙ ap (max (depth t)) (parts_depth-chain ts)

-- the depth of the parts of a list that ends in a tail which is none
pub parts_depth-improper : (ts : List TermValue) (tail : TermValue) → 0 < length ts → is_list tail ≡ false
    → parts_depth (chain ts tail) ≡ max (deepest ts) (depth tail)
parts_depth-improper [] tail h e = absurd (omega arith)
parts_depth-improper (t ∷ []) tail h e = ap (λ b. max (depth t) (cond b (parts_depth tail) (suc (parts_depth tail)))) e ∙ omega arith
parts_depth-improper (t ∷ u ∷ ts) tail h e =
    let rest = parts_depth-improper (u ∷ ts) tail (omega arith) e in omega arith

below : (b : Bool) (n : ℕ) → cond b n (suc n) ≤ suc n
below true n = omega arith
below false n = omega arith

depth-list : (ts : List TermValue) (tail : TermValue) → parts_depth (chain ts tail) ≤ max (deepest ts) (depth tail)
depth-list [] tail = omega arith
depth-list (t ∷ []) tail = omega (arith, below (is_list tail) (parts_depth tail))
depth-list (t ∷ u ∷ ts) tail = omega (arith, depth-list (u ∷ ts) tail)

pub depth-list_of : (ts : List TermValue) (tail : TermValue) (levels : ℕ) → deepest ts ≤ levels → depth tail ≤ levels → depth (chain ts tail) ≤ suc levels
depth-list_of ts tail levels h k = omega (arith, depth-list ts tail, h, k)

pub elements-chain : (ts : List TermValue) → elements (chain ts nil) ≡ ts
elements-chain [] = refl
elements-chain (t ∷ ts) = ap (λ us. t ∷ us) (elements-chain ts)

pub elements-not_list : (t : TermValue) → is_list t ≡ false → elements t ≡ []
elements-not_list (integer z) e = refl
elements-not_list (atom name) e = refl
elements-not_list (tuple parts) e = refl
elements-not_list (mapping keys values) e = refl
elements-not_list nil e = cc
elements-not_list (cons first rest) e = cc
elements-not_list (bits bs) e = refl

-- an improper list has the elements in front of its tail
pub elements-improper : (ts : List TermValue) (tail : TermValue) → is_list tail ≡ false → elements (chain ts tail) ≡ ts
elements-improper [] tail e = elements-not_list tail e
elements-improper (t ∷ ts) tail e = ap (λ us. t ∷ us) (elements-improper ts tail e)

pub IsProper-chain : (ts : List TermValue) → IsProper (chain ts nil)
IsProper-chain [] = tt
IsProper-chain (t ∷ ts) = IsProper-chain ts

-- fewer than 2 ^ 32 terms make a list within the limits
pub IsBounded-chain : (ts : List TermValue) → length ts < 2 ^ 32 → AllByRecursion IsTerm ts → IsBounded (chain ts nil)
IsBounded-chain [] short terms = tt
IsBounded-chain (t ∷ ts) short terms =
    let size : length (elements (chain ts nil)) ≡ length ts = ap length (elements-chain ts) in
    (omega arith, terms.0.bounded, IsBounded-chain ts (omega arith) terms.1)

pub AreTerms-push : (ts : List TermValue) (t : TermValue) → AreTerms ts → IsTerm t → AreTerms (ts ++ t ∷ [])
AreTerms-push [] t terms term = (term, tt)
AreTerms-push (u ∷ ts) t terms term = (terms.0, AreTerms-push ts t terms.1 term)

-- a list of terms weighs more than each of them
pub most_le-deepest : (ts : List TermValue) → most (λ t. 2 * depth t + 1) ts ≤ 2 * deepest ts + 1
most_le-deepest [] = omega arith
most_le-deepest (t ∷ ts) = omega (arith, most_le-deepest ts)

-- no term of a list is deeper than the deepest
pub deepest_bounds : (ts : List TermValue) (place : ℕ) (t : TermValue) → slice_get ts place ≡ Some t → depth t ≤ deepest ts
deepest_bounds [] place t e = cc
deepest_bounds (u ∷ ts) zero t e = let d : depth u ≡ depth t = ap depth (let f : u ≡ t = cc in f) in omega arith
deepest_bounds (u ∷ ts) (suc place) t e = let rest = deepest_bounds ts place t e in omega arith

-- ---- lemmas on pairs of a key and a value

pub deepest_of_pairs-push : (ps : List (TermValue × TermValue)) (p : TermValue × TermValue)
    → deepest_of_pairs (ps ++ p ∷ []) ≡ max (deepest_of_pairs ps) (max (depth p.0) (depth p.1))
deepest_of_pairs-push [] p = omega arith
deepest_of_pairs-push (q ∷ ps) p = let rest = deepest_of_pairs-push ps p in omega arith

pub deepest-of_pairs : (ps : List (TermValue × TermValue)) → max (deepest (map (λ p. p.0) ps)) (deepest (map (λ p. p.1) ps)) ≡ deepest_of_pairs ps
deepest-of_pairs [] = refl
deepest-of_pairs (p ∷ ps) = let rest = deepest-of_pairs ps in omega arith

pub parts_depth-map_of : (ps : List (TermValue × TermValue)) → parts_depth (map_of ps) ≡ deepest_of_pairs ps
parts_depth-map_of ps =
    let keys = parts_depth-chain (map (λ p. p.0) ps) in
    let values = parts_depth-chain (map (λ p. p.1) ps) in
    let both = deepest-of_pairs ps in
    omega arith

pub ArePairs-push : (ps : List (TermValue × TermValue)) (p : TermValue × TermValue) → ArePairs ps → IsTerm p.0 → IsTerm p.1 → ArePairs (ps ++ p ∷ [])
ArePairs-push [] p pairs k v = ((k, v), tt)
ArePairs-push (q ∷ ps) p pairs k v = (pairs.0, ArePairs-push ps p pairs.1 k v)
