-- Lemmas: what is within the limits is refused for want of memory alone.
use Rattle.std.proofs.Common.{◌≡◌, ◌<◌, ◌≤◌, ◌^◌, Result, Ok, Err, IfErr, List, [], ◌∷◌, ◌⊎◌, inl, inr, length, refl, ap, ◌∙◌, arith}
use Rattle.std.specs.List.Sorted.{IsPermutation}
use Rattle.std.proofs.lemmas.List.Sorted.{IsPermutation-refl}
use Rattle.term_model.specs.declared.term_fault.TermFault.{TermFault}
use Rattle.term_model.specs.declared.term_fault.TermFault.TheVariants.{Memory}
use Rattle.term_model.specs.TermValue.{TermValue, tuple, nil, chain, map_of, elements, depth}
use Rattle.term_model.specs.IsTerm.{AreAscending, built}
use Rattle.term_model.specs.Pairs.{keys, map_built}
use Rattle.term_model.specs.Limits.{built-within, built_or_memory}
use Rattle.term_model.specs.PairSorts.{ascending_is_by_key}
use Rattle.dets_term.specs.Parts.{deepest, deepest_of_pairs, parts_depth-chain, depth-list_of}
use Rattle.dets_term.specs.PairOrder.{map_built-within, depth-map_of}

pub tuple_or_memory : (parts : List TermValue) (r : Result TermValue TermFault) → length parts < 2 ^ 32 → deepest parts < 256
    → r ≡ built (length parts) (tuple (chain parts nil)) → IfErr r (λ fault. fault ≡ Memory)
tuple_or_memory parts r few shallow e =
    let levels = parts_depth-chain parts in built_or_memory (length parts) (tuple (chain parts nil)) r few (omega arith) e

pub list_or_memory : (parts : List TermValue) (r : Result TermValue TermFault) → length parts < 2 ^ 32 → deepest parts < 256
    → r ≡ built (length parts) (chain parts nil) → IfErr r (λ fault. fault ≡ Memory)
list_or_memory parts r few shallow e =
    let levels = parts_depth-chain parts in built_or_memory (length parts) (chain parts nil) r few (omega arith) e

-- the same of a list with a tail, which is joined
pub joined_or_memory : (parts : List TermValue) (tail : TermValue) (r : Result TermValue TermFault) → length (elements (chain parts tail)) < 2 ^ 32
    → deepest parts < 256 → depth tail < 256 → (r ≡ Err Memory) ⊎ (r ≡ built (length (elements (chain parts tail))) (chain parts tail))
    → IfErr r (λ fault. fault ≡ Memory)
joined_or_memory parts tail (Ok t) few shallow low either = tt
joined_or_memory parts tail (Err fault) few shallow low (inl e) = cc
joined_or_memory parts tail (Err fault) few shallow low (inr e) =
    let levels = depth-list_of parts tail 255 (omega arith) (omega arith) in
    built_or_memory (length (elements (chain parts tail))) (chain parts tail) (Err fault) few (omega arith) e

-- a map of pairs in order
pub map_made : (pairs : List (TermValue × TermValue)) (given : List (TermValue × TermValue)) (r : Result TermValue TermFault) → given ≡ pairs
    → AreAscending (keys pairs) → length pairs < 2 ^ 32 → deepest_of_pairs pairs < 256 → r ≡ map_built given → r ≡ Ok (map_of pairs)
map_made pairs given r same up few shallow e =
    let order = ascending_is_by_key pairs pairs (IsPermutation-refl pairs) up in
    e ∙ ap map_built same ∙ map_built-within pairs order.0 order.1 few (omega (arith, depth-map_of pairs 255 (omega arith)))

pub made_or_memory : (t : TermValue) (r : Result TermValue TermFault) → r ≡ Ok t → IfErr r (λ fault. fault ≡ Memory)
made_or_memory t (Ok u) e = tt
made_or_memory t (Err fault) e = cc
