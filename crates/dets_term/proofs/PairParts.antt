-- What pairs keep where they change places, and the map that they make.
use Rattle.std.proofs.Common.{◌≡◌, ℕ, ◌<◌, ◌≤◌, ◌^◌, max, List, [], ◌∷◌, map, length, refl, ap, ◌∙◌, sym, arith}
use Rattle.std.specs.List.Sorted.{IsPermutation}
use Rattle.std.proofs.lemmas.List.{length-map}
use Rattle.std.proofs.lemmas.List.Elements.{recursion_from_All, All-from_recursion}
use Rattle.std.proofs.lemmas.List.Recursion.{max_bounds, max_least}
use Rattle.std.proofs.lemmas.List.Sorted.{IsPermutation-sym, All-permutation}
use Rattle.term_model.specs.TermValue.{TermValue, nil, map_of, depth}
use Rattle.term_model.specs.IsTerm.{IsTerm, IsBounded, AreAscending}
use Rattle.dets_term.specs.Parts.{AreTerms, ArePairs, deepest_of_pairs, elements-chain, IsProper-chain, IsBounded-chain}
use Rattle.term_model.specs.Pairs.{keys}

pub ArePairs-permutation : (ps qs : List (TermValue × TermValue)) → IsPermutation ps qs → ArePairs ps → ArePairs qs
ArePairs-permutation ps qs moved pairs =
    recursion_from_All (λ p. IsTerm p.0 × IsTerm p.1) qs (All-permutation (λ p. IsTerm p.0 × IsTerm p.1) ps qs moved
    (All-from_recursion (λ p. IsTerm p.0 × IsTerm p.1) ps pairs))

-- the greater depth of a pair's two parts
abbrev deeper : TermValue × TermValue → ℕ
deeper p = max (depth p.0) (depth p.1)

deepest_of_moved : (ps qs : List (TermValue × TermValue)) → IsPermutation ps qs → deepest_of_pairs qs ≤ deepest_of_pairs ps
deepest_of_moved ps qs moved =
    let all = All-permutation (λ p. deeper p ≤ deepest_of_pairs ps) ps qs moved (max_bounds deepest_of_pairs deeper refl (λ x xs. refl) ps) in
    max_least deepest_of_pairs deeper refl (λ x xs. refl) qs (nil, nil) (deepest_of_pairs ps) (λ k l. all k (nil, nil) l)

pub deepest_of_pairs-permutation : (ps qs : List (TermValue × TermValue)) → IsPermutation ps qs → deepest_of_pairs qs ≡ deepest_of_pairs ps
deepest_of_pairs-permutation ps qs moved = omega (arith, deepest_of_moved ps qs moved, deepest_of_moved qs ps (IsPermutation-sym ps qs moved))

AreTerms-keys : (ps : List (TermValue × TermValue)) → ArePairs ps → AreTerms (map (λ p. p.0) ps)
AreTerms-keys [] pairs = tt
AreTerms-keys (p ∷ ps) pairs = (pairs.0.0, AreTerms-keys ps pairs.1)

AreTerms-values : (ps : List (TermValue × TermValue)) → ArePairs ps → AreTerms (map (λ p. p.1) ps)
AreTerms-values [] pairs = tt
AreTerms-values (p ∷ ps) pairs = (pairs.0.1, AreTerms-values ps pairs.1)

-- fewer than 2 ^ 32 pairs with ascending keys make a map within the limits
pub IsBounded-map_of : (ps : List (TermValue × TermValue)) → length ps < 2 ^ 32 → ArePairs ps → AreAscending (keys ps) → IsBounded (map_of ps)
IsBounded-map_of ps short pairs ascending =
    let ks = map (λ (p : TermValue × TermValue). p.0) ps in
    let vs = map (λ (p : TermValue × TermValue). p.1) ps in
    let many : length ks ≡ length ps = length-map ps (λ p. p.0) in
    let values : length vs ≡ length ps = length-map ps (λ p. p.1) in (
      IsProper-chain ks,
      IsProper-chain vs,
      ap length (elements-chain ks) ∙ many ∙ sym values ∙ ap length (sym (elements-chain vs)),
      rw elements-chain ascending,
      IsBounded-chain ks (omega arith) (AreTerms-keys ps pairs),
      IsBounded-chain vs (omega arith) (AreTerms-values ps pairs),
    )
