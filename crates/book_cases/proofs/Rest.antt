-- What holds of all members of a list, as far as it is left to see from a place on.
use Rattle.std.proofs.Common.{◌≡◌, ◌≤◌, ◌<◌, ℕ, zero, suc, ◌+◌, inl, inr, ⊎_elim, List, [], ◌∷◌, length, drop, get_or, slice_get, Some, refl, subst, arith}
use Rattle.std.proofs.lemmas.List.{drop_all}
use Rattle.etf_codec.proofs.CanonicalParts.{drop-get}
use Rattle.space_model.specs.Apart.{In}

-- where it holds from there on it holds of all
abbrev pub Rest : {X : Type 0} → (X → Type 0) → List X → ℕ → Type 0
Rest {X} P xs place = ((x : X) → In x (drop place xs) → P x) → (x : X) → In x xs → P x

pub rest_next : {X : Type 0} (P : X → Type 0) (xs : List X) (place : ℕ) (y : X) → slice_get xs place ≡ Some y → P y → Rest P xs place
    → Rest P xs (place + 1)
rest_next {X} P xs place y here is rest later =
    rest (λ x a. let b : In x (y ∷ drop (place + 1) xs) = subst (In x) (drop-get xs place y here) a in
    ⊎_elim (λ same. subst P same is) (λ behind. later x behind) b)

pub rest_none : {X : Type 0} (P : X → Type 0) (xs : List X) (place : ℕ) → length xs ≤ place → Rest P xs place → (x : X) → In x xs → P x
rest_none {X} P xs place past rest = rest (λ x a. absurd (subst (In x) (drop_all place xs past) a))

pub get_in : {X : Type 0} (xs : List X) (place : ℕ) (d : X) → place < length xs → In (get_or xs place d) xs
get_in [] place d h = absurd (omega arith)
get_in (x ∷ xs) zero d h = inl refl
get_in (x ∷ xs) (suc n) d h = inr (get_in xs n d (omega arith))
