-- Lemmas: pairs in order by their keys.
use Rattle.std.proofs.Common.{◌≡◌, ℕ, zero, suc, ◌<◌, true, false, List, [], ◌∷◌, ◌⊎◌, inl, inr, length, get_or, refl, ap, ◌∙◌, sym, subst, arith}
use Rattle.std.specs.List.{list_any, AllByRecursion, IsDistinct}
use Rattle.std.specs.List.Sorted.{IsPermutation}
use Rattle.std.specs.declared.cmp.Ordering.{Ordering}
use Rattle.std.specs.declared.cmp.Ordering.TheVariants.{Less, Equal, Greater}
use Rattle.std.specs.Ordering.{is_lt, is_eq, ordering_reverse}
use Rattle.std.proofs.lemmas.Bool.{or_parts, or_from, true_from_ne_false}
use Rattle.std.proofs.lemmas.List.Elements.{recursion_from_All}
use Rattle.std.proofs.lemmas.List.Sorted.{IsPermutation-sym, IsPermutation-trans, IsPermutation-map, All-permutation}
use Rattle.std.proofs.lemmas.Map.Keys.{IsDistinct-IsPermutation}
use Rattle.term_model.specs.TermValue.{TermValue}
use Rattle.term_model.specs.Order.{order, is_same}
use Rattle.term_model.specs.OrderCode.{order_total}
use Rattle.term_model.specs.IsTerm.{Precedes, AreAscending}
use Rattle.term_model.specs.Pairs.{keys, by_key, repeats}
use Rattle.term_model.specs.Adjacent.{Adjacent}
use Rattle.term_model.specs.Sorting.{Follows, IsPermutation-sorted_by, Adjacent-sorted_by}

abbrev Pair : Type 0
Pair = TermValue × TermValue

-- ---- what an answer of the order says of the other way round

is_eq-reverse : (r : Ordering) → is_eq (ordering_reverse r) ≡ is_eq r
is_eq-reverse Less = refl
is_eq-reverse Equal = refl
is_eq-reverse Greater = refl

less-from : (r s : Ordering) → s ≡ ordering_reverse r → is_lt s ≡ false → is_eq r ≡ false → r ≡ Less
less-from Less s e l q = refl
less-from Equal s e l q = cc
less-from Greater s e l q = let less : is_lt s ≡ true = ap is_lt e in cc

-- ---- each key stays where keys change places

distinct-from : (ks : List TermValue) → repeats ks ≡ false → IsDistinct is_same ks
unfolding IsDistinct
distinct-from [] e = tt
distinct-from (k ∷ ks) e = let p = or_parts (list_any (is_same k) ks) (repeats ks) e in (apart k ks p.0, distinct-from ks p.1)
  where
    apart : (k : TermValue) (ks : List TermValue) → list_any (is_same k) ks ≡ false → AllByRecursion (λ l. is_same k l ≡ false) ks
    apart k [] e = tt
    apart k (l ∷ ks) e = let p = or_parts (is_same k l) (list_any (is_same k) ks) e in (p.0, apart k ks p.1)

repeats-from : (ks : List TermValue) → IsDistinct is_same ks → repeats ks ≡ false
unfolding IsDistinct
repeats-from [] d = refl
repeats-from (k ∷ ks) d = or_from _ _ (none k ks d.0) (repeats-from ks d.1)
  where
    none : (k : TermValue) (ks : List TermValue) → AllByRecursion (λ l. is_same k l ≡ false) ks → list_any (is_same k) ks ≡ false
    none k [] a = refl
    none k (l ∷ ks) a = or_from _ _ a.0 (none k ks a.1)

pub repeats-IsPermutation : (ks ls : List TermValue) → IsPermutation ks ls → repeats ks ≡ false → repeats ls ≡ false
repeats-IsPermutation ks ls moved e =
    repeats-from ls (IsDistinct-IsPermutation is_same (λ x y. ap is_eq (order_total.antisymm x y) ∙ is_eq-reverse (order y x)) ks ls moved (distinct-from ks e))

-- pairs in order without a repeated key ascend
pub ascending_from_order : (qs : List Pair) → Adjacent (Follows (λ (p : Pair). p.0)) qs → repeats (keys qs) ≡ false → AreAscending (keys qs)
ascending_from_order [] a e = tt
ascending_from_order (q ∷ []) a e = (tt, tt)
ascending_from_order (q ∷ r ∷ qs) a e =
    let p = or_parts (list_any (is_same q.0) (keys (r ∷ qs))) (repeats (keys (r ∷ qs))) e in
    let first = or_parts (is_same q.0 r.0) (list_any (is_same q.0) (keys qs)) p.0 in
    (less-from (order q.0 r.0) (order r.0 q.0) (order_total.antisymm r.0 q.0) a.0 first.0, ascending_from_order (r ∷ qs) a.1 p.1)

-- ---- ascending pairs are one list

Precedes-less : (k l : TermValue) (ks : List TermValue) → order k l ≡ Less → Precedes l ks → Precedes k ks
Precedes-less k l [] e p = tt
Precedes-less k l (m ∷ ks) e p = order_total.trans k l m e p

pub all_above : (k : TermValue) (ks : List TermValue) → Precedes k ks → AreAscending ks → AllByRecursion (λ l. order k l ≡ Less) ks
all_above k [] p a = tt
all_above k (l ∷ ks) p a = (p, all_above k ks (Precedes-less k l ks p a.0) a.1)

pub ascending_repeats : (ks : List TermValue) → AreAscending ks → repeats ks ≡ false
ascending_repeats [] a = refl
ascending_repeats (k ∷ ks) a = or_from _ _ (none ks (all_above k ks a.0 a.1)) (ascending_repeats ks a.1)
  where
    none : (ls : List TermValue) → AllByRecursion (λ l. order k l ≡ Less) ls → list_any (is_same k) ls ≡ false
    none [] a = refl
    none (l ∷ ls) a = or_from _ _ (ap is_eq a.0) (none ls a.1)

-- ---- lists that ascend and hold the same pairs are equal

-- a pair stands in a list
abbrev IsIn : Pair → List Pair → Type 0
IsIn p [] = ⊥
IsIn p (q ∷ qs) = (p ≡ q) ⊎ IsIn p qs

in_at : (ps : List Pair) (k : ℕ) (d : Pair) → k < length ps → IsIn (get_or ps k d) ps
in_at [] k d l = absurd (omega arith)
in_at (p ∷ ps) zero d l = inl refl
in_at (p ∷ ps) (suc k) d l = inr (in_at ps k d (omega arith))

holds_of : (P : Pair → Type 0) (ps : List Pair) (z : Pair) → AllByRecursion P ps → IsIn z ps → P z
holds_of P [] z a i = absurd i
holds_of P (p ∷ ps) z a (inl e) = subst P (sym e) a.0
holds_of P (p ∷ ps) z a (inr i) = holds_of P ps z a.1 i

in_moved : (ps qs : List Pair) → IsPermutation ps qs → (z : Pair) → IsIn z ps → IsIn z qs
in_moved ps qs moved z i =
    holds_of (λ p. IsIn p qs) ps z (recursion_from_All (λ p. IsIn p qs) ps
    (All-permutation (λ p. IsIn p qs) qs ps (IsPermutation-sym ps qs moved) (in_at qs))) i

not_both : (k l : TermValue) → order k l ≡ Less → order l k ≡ Less → ⊥
not_both k l e f = let turned : order k l ≡ Greater = order_total.antisymm k l ∙ ap ordering_reverse f in cc

above : (p : Pair) (ps : List Pair) (z : Pair) → AreAscending (keys (p ∷ ps)) → IsIn z ps → order p.0 z.0 ≡ Less
above p [] z a i = absurd i
above p (q ∷ qs) z a (inl e) = subst (λ r. order p.0 r.0 ≡ Less) (sym e) a.0
above p (q ∷ qs) z a (inr i) = above p qs z (Precedes-less p.0 q.0 (keys qs) a.0 a.1.0, a.1.1) i

first_same : (p q : Pair) (ps qs : List Pair) → AreAscending (keys (p ∷ ps)) → AreAscending (keys (q ∷ qs)) → IsIn p (q ∷ qs) → IsIn q (p ∷ ps) → p ≡ q
first_same p q ps qs a b (inl e) j = e
first_same p q ps qs a b (inr i) (inl e) = sym e
first_same p q ps qs a b (inr i) (inr j) = absurd (not_both p.0 q.0 (above p ps q a j) (above q qs p b i))

in_rest : (p q z : Pair) (ps qs : List Pair) → AreAscending (keys (p ∷ ps)) → p ≡ q → IsIn z ps → IsIn z (q ∷ qs) → IsIn z qs
in_rest p q z ps qs a e i (inr j) = j
in_rest p q z ps qs a e i (inl f) =
    let less : order p.0 p.0 ≡ Less = subst (λ r. order p.0 r.0 ≡ Less) (f ∙ sym e) (above p ps z a i) in absurd (not_both p.0 p.0 less less)

same_list : (ps qs : List Pair) → AreAscending (keys ps) → AreAscending (keys qs) → ((z : Pair) → IsIn z ps → IsIn z qs)
    → ((z : Pair) → IsIn z qs → IsIn z ps) → ps ≡ qs
same_list [] [] a b f g = refl
same_list [] (q ∷ qs) a b f g = absurd (g q (inl refl))
same_list (p ∷ ps) [] a b f g = absurd (f p (inl refl))
same_list (p ∷ ps) (q ∷ qs) a b f g =
    let e = first_same p q ps qs a b (f p (inl refl)) (g q (inl refl)) in
    let rest = same_list ps qs a.1 b.1 (λ z i. in_rest p q z ps qs a e i (f z (inr i))) (λ z i. in_rest q p z qs ps b (sym e) i (g z (inr i))) in
    ap (λ r. r ∷ ps) e ∙ ap (λ rs. q ∷ rs) rest

-- ---- what a sort tells

-- pairs in another order that ascend are the pairs by key, and no key is repeated
pub ascending_is_by_key : (ps qs : List Pair) → IsPermutation ps qs → AreAscending (keys qs) → (repeats (keys ps) ≡ false) × (by_key ps ≡ qs)
ascending_is_by_key ps qs moved a =
    let back = IsPermutation-sym ps qs moved in
    let none = repeats-IsPermutation (keys qs) (keys ps) (IsPermutation-map (λ p. p.0) qs ps back) (ascending_repeats (keys qs) a) in
    let placed = IsPermutation-sorted_by (λ (p : Pair). p.0) ps in
    let still = repeats-IsPermutation (keys ps) (keys (by_key ps)) (IsPermutation-map (λ p. p.0) ps (by_key ps) placed) none in
    let there = IsPermutation-trans _ _ _ (IsPermutation-sym _ _ placed) moved in (
      none,
      same_list (by_key ps) qs (ascending_from_order (by_key ps) (Adjacent-sorted_by (λ (p : Pair). p.0) ps) still) a (in_moved _ _ there)
          (in_moved _ _ (IsPermutation-sym _ _ there)),
    )

-- pairs in order that do not ascend repeat a key
pub repeats_unless_ascending : (ps qs : List Pair) → IsPermutation ps qs → Adjacent (Follows (λ p. p.0)) qs → (AreAscending (keys qs) → ⊥)
    → repeats (keys ps) ≡ true
repeats_unless_ascending ps qs moved in_order not_ascending =
    true_from_ne_false _ (λ e. not_ascending (ascending_from_order qs in_order
    (repeats-IsPermutation (keys ps) (keys qs) (IsPermutation-map (λ p. p.0) ps qs moved) e)))
