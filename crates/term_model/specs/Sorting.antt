-- Lemmas: what is put in order is a permutation, in order.
use Rattle.std.specs.Prelude.{◌≡◌, ◌≤◌, true, false, Bool, cond, List, [], ◌∷◌, length, refl}
use Rattle.std.proofs.Common.{arith, ap}
use Rattle.std.specs.List.Sorted.{IsPermutation, IsSortedByKey}
use Rattle.std.specs.declared.cmp.Ordering.{Ordering}
use Rattle.std.specs.declared.cmp.Ordering.TheVariants.{Less, Equal, Greater}
use Rattle.std.specs.Ordering.{is_lt, ordering_reverse}
use Rattle.std.proofs.lemmas.List.Sorted.{IsPermutation-refl, IsPermutation-trans, IsPermutation-cons, IsPermutation-middle}
use Rattle.term_model.specs.TermValue.{TermValue}
use Rattle.term_model.specs.Order.{order}
use Rattle.term_model.specs.OrderCode.{order_total}
use Rattle.term_model.specs.Sorted.{placed_by, sorted_by, ascending}
use Rattle.term_model.specs.Adjacent.{Starts, Adjacent, adjacent_from_places, places_from_adjacent}

less-reverse : (r s : Ordering) → s ≡ ordering_reverse r → r ≡ Less → is_lt s ≡ false
less-reverse Less s e l = ap is_lt e
less-reverse Equal s e l = cc
less-reverse Greater s e l = cc

pub less-is : (r : Ordering) → is_lt r ≡ true → r ≡ Less
less-is Less e = refl
less-is Equal e = cc
less-is Greater e = cc

-- an element's term is not greater than the next one's
abbrev pub Follows : {A : Type 0} → (A → TermValue) → A → A → Type 0
Follows f x y = is_lt (order (f y) (f x)) ≡ false

pub in_order_from_sort : {A : Type 0} (f : A → TermValue) (xs : List A) → IsSortedByKey f order xs → Adjacent (Follows f) xs
in_order_from_sort f xs s = adjacent_from_places (Follows f) xs (λ k d l. s k d (omega arith) l)

-- ---- the same elements

IsPermutation-placed_by : {A : Type 0} (f : A → TermValue) (x : A) (ys : List A) → IsPermutation (x ∷ ys) (placed_by f x ys)
IsPermutation-placed_by f x [] = IsPermutation-refl (x ∷ [])
IsPermutation-placed_by f x (y ∷ ys) =
    elim (is_lt (order (f x) (f y))) as (λ b. IsPermutation (x ∷ y ∷ ys) (cond b (x ∷ y ∷ ys) (y ∷ placed_by f x ys))) [
      | true ↦ IsPermutation-refl (x ∷ y ∷ ys)
      | false ↦ IsPermutation-trans _ (y ∷ x ∷ ys) _ (IsPermutation-middle (x ∷ []) y ys) (IsPermutation-cons y _ _ (IsPermutation-placed_by f x ys))
    ]

pub IsPermutation-sorted_by : {A : Type 0} (f : A → TermValue) (xs : List A) → IsPermutation xs (sorted_by f xs)
IsPermutation-sorted_by f [] = IsPermutation-refl []
IsPermutation-sorted_by f (x ∷ xs) =
    IsPermutation-trans _ (x ∷ sorted_by f xs) _ (IsPermutation-cons x _ _ (IsPermutation-sorted_by f xs)) (IsPermutation-placed_by f x (sorted_by f xs))

-- ---- in order

Starts-placed_by : {A : Type 0} (f : A → TermValue) (x y : A) (ys : List A) → Follows f y x → Starts (Follows f) y ys → Starts (Follows f) y (placed_by f x ys)
Starts-placed_by f x y [] h s = h
Starts-placed_by f x y (z ∷ ys) h s =
    elim (is_lt (order (f x) (f z))) as (λ b. Starts (Follows f) y (cond b (x ∷ z ∷ ys) (z ∷ placed_by f x ys))) [ true ↦ h | false ↦ s ]

by_test : {A : Type 0} (f : A → TermValue) (x y : A) (ys : List A) (b : Bool) → is_lt (order (f x) (f y)) ≡ b → Adjacent (Follows f) (y ∷ ys)
    → Adjacent (Follows f) (placed_by f x ys) → Adjacent (Follows f) (cond b (x ∷ y ∷ ys) (y ∷ placed_by f x ys))
by_test f x y ys true e in_order rest = (less-reverse (order (f x) (f y)) (order (f y) (f x)) (order_total.antisymm (f y) (f x)) (less-is _ e), in_order)
by_test f x y ys false e in_order rest = (Starts-placed_by f x y ys e in_order.0, rest)

Adjacent-placed_by : {A : Type 0} (f : A → TermValue) (x : A) (ys : List A) → Adjacent (Follows f) ys → Adjacent (Follows f) (placed_by f x ys)
Adjacent-placed_by f x [] a = (tt, tt)
Adjacent-placed_by f x (y ∷ ys) a = by_test f x y ys (is_lt (order (f x) (f y))) refl a (Adjacent-placed_by f x ys a.1)

pub Adjacent-sorted_by : {A : Type 0} (f : A → TermValue) (xs : List A) → Adjacent (Follows f) (sorted_by f xs)
Adjacent-sorted_by f [] = tt
Adjacent-sorted_by f (x ∷ xs) = Adjacent-placed_by f x (sorted_by f xs) (Adjacent-sorted_by f xs)

pub IsSortedByKey-sorted_by : {A : Type 0} (f : A → TermValue) (xs : List A) → IsSortedByKey f order (sorted_by f xs)
IsSortedByKey-sorted_by f xs = λ k d low high. places_from_adjacent (Follows f) (sorted_by f xs) (Adjacent-sorted_by f xs) k d high

-- one element is in order
pub ascending-few : (ts : List TermValue) → length ts ≤ 1 → ascending ts ≡ ts
ascending-few [] few = refl
ascending-few (t ∷ []) few = refl
ascending-few (t ∷ u ∷ ts) few = absurd (omega arith)
