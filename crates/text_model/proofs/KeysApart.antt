-- Where no key of some pairs is repeated, each of them is put to pairs that do not have its key.
use Rattle.std.proofs.Common.{◌≡◌, Bool, true, false, cond, ◌⊎◌, inl, inr, ◌&&◌, List, [], ◌∷◌, ◌++◌, refl, ap, ◌∙◌, sym, subst}
use Rattle.std.proofs.Math.Bool.{and-false}
use Rattle.std.proofs.lemmas.Bool.{or_parts, cases_Bool}
use Rattle.std.proofs.lemmas.List.Sorted.{IsPermutation-map, IsPermutation-middle, IsPermutation-to_front, IsPermutation-append_left}
use Rattle.std.proofs.lemmas.List.Sorted.{IsPermutation-refl, IsPermutation-sym, IsPermutation-cons, IsPermutation-trans, list_any-IsPermutation}
use Rattle.std.proofs.lemmas.List.{append-nil}
use Rattle.std.specs.List.{list_any}
use Rattle.std.specs.Ordering.{is_lt}
use Rattle.std.specs.List.Sorted.{IsPermutation}
use Rattle.dets_term.specs.TermValue.{TermValue}
use Rattle.dets_term.specs.Order.{order, is_same}
use Rattle.dets_term.specs.Pairs.{keys, placed, repeats}
use Rattle.dets_term.specs.PairSorts.{repeats-IsPermutation}
use Rattle.text_model.specs.Grammar.{Rules, all_placed}
use Rattle.text_model.proofs.Series.{joined, AllMay}

-- a pair among some by ascending key
abbrev pub put : List (TermValue × TermValue) → TermValue × TermValue → List (TermValue × TermValue)
put sorted pair = placed pair sorted

pub joined-put : (sorted pairs : List (TermValue × TermValue)) → joined put sorted pairs ≡ all_placed sorted pairs
joined-put sorted [] = refl
joined-put sorted (p ∷ ps) = joined-put (placed p sorted) ps

-- no pair with this key may be put to these
abbrev pub refuses_key : Rules → List (TermValue × TermValue) → TermValue × TermValue → Bool
refuses_key rules sorted pair = rules.distinct && list_any (is_same pair.0) (keys sorted)

none_before : (k : TermValue) (ks ls : List TermValue) → list_any (is_same k) (ks ++ ls) ≡ false → list_any (is_same k) ks ≡ false
none_before k [] ls e = refl
none_before k (l ∷ ks) ls e =
    let p = or_parts (is_same k l) (list_any (is_same k) (ks ++ ls)) e in rw (p.0) (none_before k ks ls p.1)

-- as the lemma on sorting of term_model, which that crate does not offer
placed_moved : (p : TermValue × TermValue) (qs : List (TermValue × TermValue)) → IsPermutation (p ∷ qs) (placed p qs)
placed_moved p [] = IsPermutation-refl (p ∷ [])
placed_moved p (q ∷ qs) =
    elim (is_lt (order p.0 q.0)) as (λ b. IsPermutation (p ∷ q ∷ qs) (cond b (p ∷ q ∷ qs) (q ∷ placed p qs))) [
      | true ↦ IsPermutation-refl (p ∷ q ∷ qs)
      | false ↦ IsPermutation-trans _ (q ∷ p ∷ qs) _ (IsPermutation-middle (p ∷ []) q qs) (IsPermutation-cons q _ _ (placed_moved p qs))
    ]

-- pairs that are put one after the other among others
all_placed_moved : (sorted pairs : List (TermValue × TermValue)) → IsPermutation (sorted ++ pairs) (all_placed sorted pairs)
all_placed_moved sorted [] = subst (λ l. IsPermutation l sorted) (sym (append-nil sorted)) (IsPermutation-refl sorted)
all_placed_moved sorted (p ∷ ps) =
    IsPermutation-trans _ (placed p sorted ++ ps) _
    (IsPermutation-trans _ _ _ (IsPermutation-middle sorted p ps) (IsPermutation-append_left ps _ _ (placed_moved p sorted)))
    (all_placed_moved (placed p sorted) ps)

-- a key stands among them before and after alike
pub any_placed : (k : TermValue) (pairs : List (TermValue × TermValue))
    → list_any (is_same k) (keys pairs) ≡ list_any (is_same k) (keys (all_placed [] pairs))
any_placed k pairs =
    list_any-IsPermutation (is_same k) _ _ (IsPermutation-map (λ (q : TermValue × TermValue). q.0) pairs (all_placed [] pairs) (all_placed_moved [] pairs))

pub all_placed-more : (sorted pairs : List (TermValue × TermValue)) (p : TermValue × TermValue)
    → all_placed sorted (pairs ++ p ∷ []) ≡ placed p (all_placed sorted pairs)
all_placed-more sorted [] p = refl
all_placed-more sorted (q ∷ qs) p = all_placed-more (placed q sorted) qs p

-- a pair more, whose key is no other's
pub repeats-more : (pairs : List (TermValue × TermValue)) (p : TermValue × TermValue) → repeats (p.0 ∷ keys pairs) ≡ false
    → repeats (keys (pairs ++ p ∷ [])) ≡ false
repeats-more pairs p e =
    repeats-IsPermutation _ _
    (IsPermutation-map (λ (q : TermValue × TermValue). q.0) (p ∷ pairs) (pairs ++ p ∷ []) (IsPermutation-sym _ _ (IsPermutation-to_front pairs p))) e

keys_put : (p : TermValue × TermValue) (sorted : List (TermValue × TermValue)) (ls : List TermValue)
    → IsPermutation (keys sorted ++ p.0 ∷ ls) (keys (placed p sorted) ++ ls)
keys_put p sorted ls =
    let first = IsPermutation-middle (keys sorted) p.0 ls in
    let put_there = IsPermutation-map (λ (q : TermValue × TermValue). q.0) (p ∷ sorted) (placed p sorted) (placed_moved p sorted) in
    IsPermutation-trans _ _ _ first (IsPermutation-append_left ls _ _ put_there)

distinct_may : (rules : Rules) (sorted pairs : List (TermValue × TermValue)) → repeats (keys sorted ++ keys pairs) ≡ false
    → AllMay put (refuses_key rules) sorted pairs
distinct_may rules sorted [] e = tt
distinct_may rules sorted (p ∷ ps) e =
    let front = repeats-IsPermutation _ (p.0 ∷ keys sorted ++ keys ps) (IsPermutation-middle (keys sorted) p.0 (keys ps)) e in
    let parts = or_parts (list_any (is_same p.0) (keys sorted ++ keys ps)) (repeats (keys sorted ++ keys ps)) front in (
      ap (λ b. rules.distinct && b) (none_before p.0 (keys sorted) (keys ps) parts.0) ∙ and-false rules.distinct,
      distinct_may rules (placed p sorted) ps (repeats-IsPermutation _ _ (keys_put p sorted (keys ps)) e),
    )

any_may : (rules : Rules) (sorted pairs : List (TermValue × TermValue)) → rules.distinct ≡ false → AllMay put (refuses_key rules) sorted pairs
any_may rules sorted [] e = tt
any_may rules sorted (p ∷ ps) e = (ap (λ b. b && list_any (is_same p.0) (keys sorted)) e, any_may rules (placed p sorted) ps e)

pub pairs_may : (rules : Rules) (pairs : List (TermValue × TermValue)) → (rules.distinct ≡ true → repeats (keys pairs) ≡ false)
    → AllMay put (refuses_key rules) [] pairs
pairs_may rules pairs apart = by_test (cases_Bool rules.distinct)
  where
    by_test : (rules.distinct ≡ true) ⊎ (rules.distinct ≡ false) → AllMay put (refuses_key rules) [] pairs
    by_test (inl d) = distinct_may rules [] pairs (apart d)
    by_test (inr d) = any_may rules [] pairs d
