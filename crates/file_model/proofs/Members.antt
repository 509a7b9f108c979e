-- Members of a list.
use Rattle.std.proofs.Common.{◌≡◌, ◌⊎◌, inl, inr, ⊎_elim, List, [], ◌∷◌, refl, sym, ◌∙◌, subst}
use Rattle.std.specs.List.{AllByRecursion}
use Rattle.file_model.specs.BodyWrites.{Pairs}

abbrev pub In : {X : Type 0} → X → List X → Type 0
In x [] = ⊥
In x (y ∷ ys) = (y ≡ x) ⊎ In x ys

pub of_all : {X : Type 0} (P : X → Type 0) (xs : List X) (x : X) → AllByRecursion P xs → In x xs → P x
of_all P [] x all a = absurd a
of_all P (y ∷ ys) x all a = ⊎_elim (λ here. subst P here all.0) (λ later. of_all P ys x all.1 later) a

pub all_of : {X : Type 0} (P : X → Type 0) (xs : List X) → ((x : X) → In x xs → P x) → AllByRecursion P xs
all_of P [] each = tt
all_of P (y ∷ ys) each = (each y (inl refl), all_of P ys (λ x a. each x (inr a)))

-- one of the two ways round, or one member
pub of_pairs : {X : Type 0} (R : X → X → Type 0) (xs : List X) (x y : X) → Pairs R xs → In x xs → In y xs → (x ≡ y) ⊎ (R x y ⊎ R y x)
of_pairs R [] x y pairs a b = absurd a
of_pairs R (z ∷ zs) x y pairs a b = ⊎_elim
    (λ x_first. ⊎_elim
    (λ y_first. inl (sym x_first ∙ y_first))
    (λ y_later. inr (inl (subst (λ w. R w y) x_first (of_all (R z) zs y pairs.0 y_later))))
    b)
    (λ x_later. ⊎_elim
    (λ y_first. inr (inr (subst (λ w. R w x) y_first (of_all (R z) zs x pairs.0 x_later))))
    (λ y_later. of_pairs R zs x y pairs.1 x_later y_later)
    b)
    a
