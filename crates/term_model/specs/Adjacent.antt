-- Lemmas: neighbours in a list, by places and by recursion.
use Rattle.std.proofs.Common.{◌≡◌, ℕ, zero, suc, ◌+◌, ◌<◌, List, [], ◌∷◌, length, get_or, subst, arith}

-- R holds of an element and the first one of a list, where there is one
abbrev pub Starts : {X : Type 0} → (X → X → Type 0) → X → List X → Type 0
Starts R x [] = Unit {0}
Starts R x (y ∷ ys) = R x y

-- R holds of each element and the next one
abbrev pub Adjacent : {X : Type 0} → (X → X → Type 0) → List X → Type 0
Adjacent R [] = Unit {0}
Adjacent R (x ∷ xs) = Starts R x xs × Adjacent R xs

pub adjacent_from_places : {X : Type 0} (R : X → X → Type 0) (xs : List X)
    → ((k : ℕ) (d : X) → k + 1 < length xs → R (get_or xs k d) (get_or xs (k + 1) d)) → Adjacent R xs
adjacent_from_places R [] h = tt
adjacent_from_places R (x ∷ []) h = (tt, tt)
adjacent_from_places R (x ∷ y ∷ ys) h = (
  h 0 x (omega arith),
  adjacent_from_places R (y ∷ ys) (λ k d l.
      let next : suc k + 1 ≡ suc (k + 1) = omega arith in
      subst (λ n. R (get_or (y ∷ ys) k d) (get_or (x ∷ y ∷ ys) n d)) next (h (suc k) d (omega arith))),
)

pub places_from_adjacent : {X : Type 0} (R : X → X → Type 0) (xs : List X) → Adjacent R xs → (k : ℕ) (d : X) → k + 1 < length xs
    → R (get_or xs k d) (get_or xs (k + 1) d)
places_from_adjacent R [] a k d l = absurd (omega arith)
places_from_adjacent R (x ∷ []) a k d l = absurd (omega arith)
places_from_adjacent R (x ∷ y ∷ ys) a zero d l = a.0
places_from_adjacent R (x ∷ y ∷ ys) a (suc k) d l =
    let next : suc (k + 1) ≡ suc k + 1 = omega arith in
    subst (λ n. R (get_or (y ∷ ys) k d) (get_or (x ∷ y ∷ ys) n d)) next (places_from_adjacent R (y ∷ ys) a.1 k d (omega arith))
