-- A test of all elements of a list, or of all neighbours, as far as it is decided by those from a place on.
use Rattle.std.proofs.Common.{◌≡◌, ◌≤◌, ℕ, zero, suc, ◌+◌, ◌-◌, Bool, true, false, ◌&&◌, List}
use Rattle.std.proofs.Common.{[], ◌∷◌, length, drop, slice_get, Some, refl, sym, ap, ◌∙◌, arith, length-drop}
use Rattle.std.specs.List.{list_all}
use Rattle.std.specs.declared.cmp.Ordering.{Ordering}
use Rattle.dets_term.specs.TermValue.{TermValue}
use Rattle.dets_term.specs.Order.{order}
use Rattle.file_model.specs.Block.{ascend_by}

drop-get : {X : Type 0} (xs : List X) (n : ℕ) (x : X) → slice_get xs n ≡ Some x → drop n xs ≡ x ∷ drop (n + 1) xs
drop-get [] n x e = cc
drop-get (y ∷ xs) zero x e = let same : y ≡ x = cc in ap (λ z. z ∷ xs) same
drop-get (y ∷ xs) (suc n) x e = let more : suc n + 1 ≡ suc (n + 1) = omega arith in rw more (drop-get xs n x e)

drop-end : {X : Type 0} (xs : List X) (n : ℕ) → length xs ≤ n → drop n xs ≡ []
drop-end [] zero h = refl
drop-end [] (suc n) h = refl
drop-end (x ∷ xs) zero h = absurd (omega arith)
drop-end (x ∷ xs) (suc n) h = drop-end xs n (omega arith)

-- ---- all elements

pub fails_at : {X : Type 0} (p : X → Bool) (xs : List X) (n : ℕ) (x : X) → slice_get xs n ≡ Some x → list_all p (drop n xs) ≡ list_all p xs
    → p x ≡ false → false ≡ list_all p xs
fails_at p xs n x here left fails =
    sym (ap (λ b. b && list_all p (drop (n + 1) xs)) fails) ∙ sym (ap (list_all p) (drop-get xs n x here)) ∙ left

pub passes_at : {X : Type 0} (p : X → Bool) (xs : List X) (n : ℕ) (x : X) → slice_get xs n ≡ Some x → list_all p (drop n xs) ≡ list_all p xs
    → p x ≡ true → list_all p (drop (n + 1) xs) ≡ list_all p xs
passes_at p xs n x here left is =
    sym (ap (λ b. b && list_all p (drop (n + 1) xs)) is) ∙ sym (ap (list_all p) (drop-get xs n x here)) ∙ left

pub passes_to_end : {X : Type 0} (p : X → Bool) (xs : List X) (n : ℕ) → length xs ≤ n → list_all p (drop n xs) ≡ list_all p xs → true ≡ list_all p xs
passes_to_end p xs n h left = sym (ap (list_all p) (drop-end xs n h)) ∙ left

-- ---- all neighbours

from_here : (test : Ordering → Bool) (xs : List TermValue) (n : ℕ) (x y : TermValue) → 1 ≤ n → slice_get xs (n - 1) ≡ Some x → slice_get xs n ≡ Some y
    → ascend_by test (drop (n - 1) xs) ≡ (test (order x y) && ascend_by test (drop n xs))
from_here test xs n x y some before here =
    let next : n - 1 + 1 ≡ n = omega arith in
    let rest : drop n xs ≡ y ∷ drop (n + 1) xs = drop-get xs n y here in
    let all : drop (n - 1) xs ≡ x ∷ drop n xs = drop-get xs (n - 1) x before ∙ ap (λ m. x ∷ drop m xs) next in
    ap (ascend_by test) all ∙ ap (λ ys. ascend_by test (x ∷ ys)) rest ∙ sym (ap (λ ys. test (order x y) && ascend_by test ys) rest)

pub descends_at : (test : Ordering → Bool) (xs : List TermValue) (n : ℕ) (x y : TermValue) → 1 ≤ n → slice_get xs (n - 1) ≡ Some x → slice_get xs n ≡ Some y
    → ascend_by test (drop (n - 1) xs) ≡ ascend_by test xs → test (order x y) ≡ false → false ≡ ascend_by test xs
descends_at test xs n x y some before here left fails =
    sym (ap (λ b. b && ascend_by test (drop n xs)) fails) ∙ sym (from_here test xs n x y some before here) ∙ left

pub ascends_at : (test : Ordering → Bool) (xs : List TermValue) (n : ℕ) (x y : TermValue) → 1 ≤ n → slice_get xs (n - 1) ≡ Some x → slice_get xs n ≡ Some y
    → ascend_by test (drop (n - 1) xs) ≡ ascend_by test xs → test (order x y) ≡ true → ascend_by test (drop (n + 1 - 1) xs) ≡ ascend_by test xs
ascends_at test xs n x y some before here left is =
    let next : n + 1 - 1 ≡ n = omega arith in
    ap (λ m. ascend_by test (drop m xs)) next
    ∙ sym (ap (λ b. b && ascend_by test (drop n xs)) is) ∙ sym (from_here test xs n x y some before here) ∙ left

at_most_one : (test : Ordering → Bool) (xs : List TermValue) → length xs ≤ 1 → true ≡ ascend_by test xs
at_most_one test [] h = refl
at_most_one test (x ∷ []) h = refl
at_most_one test (x ∷ y ∷ ys) h = absurd (omega arith)

pub ascends_to_end : (test : Ordering → Bool) (xs : List TermValue) (n : ℕ) → length xs ≤ n → ascend_by test (drop (n - 1) xs) ≡ ascend_by test xs
    → true ≡ ascend_by test xs
ascends_to_end test xs n h left = at_most_one test (drop (n - 1) xs) (omega (arith, length-drop (n - 1) xs)) ∙ left
