-- A map is built of its own pairs, whose keys ascend: they stay as they are.
use Rattle.std.proofs.Common.{◌≡◌, false, cond, List, [], ◌∷◌, ◌++◌, map, length, refl, ap, ◌∙◌, sym, subst, append_assoc, append-nil, arith}
use Rattle.std.specs.List.{AllByRecursion, zip}
use Rattle.std.specs.declared.cmp.Ordering.TheVariants.{Less}
use Rattle.std.specs.Ordering.{is_lt, ordering_reverse}
use Rattle.dets_term.specs.TermValue.{TermValue, mapping, nil, chain, map_of, elements}
use Rattle.dets_term.specs.IsTerm.{IsProper, Precedes, AreAscending}
use Rattle.dets_term.specs.Order.{order}
use Rattle.dets_term.specs.OrderCode.{order_total}
use Rattle.dets_term.specs.Pairs.{keys, placed, repeats}
use Rattle.dets_term.specs.PairSorts.{ascending_repeats}
use Rattle.text_model.specs.Grammar.{all_placed}
use Rattle.text_model.proofs.PrintedLists.{proper_chain}

-- each of some pairs has a key below
abbrev AreBelow : List (TermValue × TermValue) → TermValue → Type 0
AreBelow pairs k = AllByRecursion (λ p. order p.0 k ≡ Less) pairs

not_less : (a b : TermValue) → order a b ≡ Less → is_lt (order b a) ≡ false
not_less a b e = ap is_lt (order_total.antisymm b a ∙ ap ordering_reverse e)

placed_last : (p : TermValue × TermValue) (sorted : List (TermValue × TermValue)) → AreBelow sorted p.0 → placed p sorted ≡ sorted ++ p ∷ []
placed_last p [] below = refl
placed_last p (q ∷ sorted) below =
    ap (λ b. cond b (p ∷ q ∷ sorted) (q ∷ placed p sorted)) (not_less q.0 p.0 below.0) ∙ ap (λ l. q ∷ l) (placed_last p sorted below.1)

below_more : (sorted : List (TermValue × TermValue)) (k l : TermValue) → AreBelow sorted k → order k l ≡ Less → AreBelow sorted l
below_more [] k l below e = tt
below_more (q ∷ sorted) k l below e = (order_total.trans q.0 k l below.0 e, below_more sorted k l below.1 e)

below_push : (sorted : List (TermValue × TermValue)) (p : TermValue × TermValue) (k : TermValue) → AreBelow sorted k → order p.0 k ≡ Less
    → AreBelow (sorted ++ p ∷ []) k
below_push [] p k below e = (e, tt)
below_push (q ∷ sorted) p k below e = (below.0, below_push sorted p k below.1 e)

-- each of some pairs has a key below the first of these
abbrev AreBefore : List (TermValue × TermValue) → List (TermValue × TermValue) → Type 0
AreBefore sorted [] = Unit {0}
AreBefore sorted (p ∷ pairs) = AreBelow sorted p.0

before_next : (sorted : List (TermValue × TermValue)) (p : TermValue × TermValue) (pairs : List (TermValue × TermValue)) → AreBelow sorted p.0
    → Precedes p.0 (keys pairs) → AreBefore (sorted ++ p ∷ []) pairs
before_next sorted p [] below e = tt
before_next sorted p (q ∷ pairs) below e = below_push sorted p q.0 (below_more sorted p.0 q.0 below e) e

ascending_placed : (sorted pairs : List (TermValue × TermValue)) → AreBefore sorted pairs → AreAscending (keys pairs)
    → all_placed sorted pairs ≡ sorted ++ pairs
ascending_placed sorted [] before ascending = sym (append-nil sorted)
ascending_placed sorted (p ∷ pairs) before ascending =
    ap (λ l. all_placed l pairs) (placed_last p sorted before)
    ∙ ascending_placed (sorted ++ p ∷ []) pairs (before_next sorted p pairs before ascending.0) ascending.1 ∙ append_assoc sorted (p ∷ []) pairs

before_none : (pairs : List (TermValue × TermValue)) → AreBefore [] pairs
before_none [] = tt
before_none (p ∷ pairs) = tt

-- the pairs of a map
abbrev pub pairs_of : TermValue → TermValue → List (TermValue × TermValue)
pairs_of ks vs = zip (elements ks) (elements vs)

keys_back : (ks vs : List TermValue) → length ks ≡ length vs → map (λ p. p.0) (zip ks vs) ≡ ks
keys_back [] vs e = refl
keys_back (k ∷ ks) [] e = absurd (omega arith)
keys_back (k ∷ ks) (v ∷ vs) e = ap (λ l. k ∷ l) (keys_back ks vs (omega arith))

values_back : (ks vs : List TermValue) → length ks ≡ length vs → map (λ p. p.1) (zip ks vs) ≡ vs
values_back [] [] e = refl
values_back [] (v ∷ vs) e = absurd (omega arith)
values_back (k ∷ ks) [] e = absurd (omega arith)
values_back (k ∷ ks) (v ∷ vs) e = ap (λ l. v ∷ l) (values_back ks vs (omega arith))

map_of_pairs : (ks vs : TermValue) → IsProper ks → IsProper vs → length (elements ks) ≡ length (elements vs) → mapping ks vs ≡ map_of (pairs_of ks vs)
map_of_pairs ks vs proper_keys proper_values e =
    ap (λ t. mapping t vs) (proper_chain ks proper_keys ∙ ap (λ l. chain l nil) (sym (keys_back (elements ks) (elements vs) e)))
    ∙ ap (mapping (chain (map (λ p. p.0) (pairs_of ks vs)) nil))
    (proper_chain vs proper_values ∙ ap (λ l. chain l nil) (sym (values_back (elements ks) (elements vs) e)))

pub map_of_ascending : (ks vs : TermValue) → IsProper ks → IsProper vs → length (elements ks) ≡ length (elements vs) → AreAscending (elements ks)
    → (mapping ks vs ≡ map_of (all_placed [] (pairs_of ks vs))) × (repeats (keys (pairs_of ks vs)) ≡ false)
map_of_ascending ks vs proper_keys proper_values e ascending =
    let up : AreAscending (keys (pairs_of ks vs)) = subst AreAscending (sym (keys_back (elements ks) (elements vs) e)) ascending in (
      map_of_pairs ks vs proper_keys proper_values e ∙ ap map_of (sym (ascending_placed [] (pairs_of ks vs) (before_none (pairs_of ks vs)) up)),
      ascending_repeats (keys (pairs_of ks vs)) up,
    )
