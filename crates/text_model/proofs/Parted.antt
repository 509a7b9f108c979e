-- Lists in two parts.
use Rattle.std.proofs.Common.{◌≡◌, ◌<◌, ◌≤◌, List, [], ◌∷◌, ◌++◌, length, refl, ap, arith}

-- where a list is parted twice, the shorter front begins the longer one
pub parted_twice : {A : Type 0} (xs ys us vs : List A) → xs ++ ys ≡ us ++ vs → length xs ≤ length us → (more : List A) × (us ≡ xs ++ more) × (ys ≡ more ++ vs)
parted_twice [] ys us vs e h = (us, refl, e)
parted_twice (x ∷ xs) ys [] vs e h = absurd (omega arith)
parted_twice (x ∷ xs) ys (u ∷ us) vs e h =
    let tail : xs ++ ys ≡ us ++ vs = cc in
    let more = parted_twice xs ys us vs tail (omega arith) in
    let head : u ≡ x = cc in
    let whole_front : u ∷ us ≡ x ∷ (xs ++ more.0) = let k = more.1 in cc in
    (more.0, whole_front, more.2)

-- a list that is not empty, by its last item
pub last_of : {A : Type 0} (xs : List A) → 0 < length xs → (front : List A) × (x : A) × (xs ≡ front ++ x ∷ [])
last_of [] h = absurd (omega arith)
last_of (x ∷ []) h = ([], x, refl)
last_of (x ∷ y ∷ xs) h =
    let more = last_of (y ∷ xs) (omega arith) in
    (x ∷ more.0, more.1, ap (λ t. x ∷ t) more.2)
