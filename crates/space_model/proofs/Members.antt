-- Lemmas: members of lists, and what holds of each member and each one behind it.
use Rattle.std.proofs.Common.{◌≡◌, ◌⊎◌, inl, inr, ⊎_elim, Bool, true, false, cond, List, [], ◌∷◌, ◌++◌, map, filter, Option, Some, None, refl, ap, ◌∙◌, subst}
use Rattle.std.specs.Prelude.{filter_map}
use Rattle.std.specs.List.{list_any, cons_option}
use Rattle.std.proofs.lemmas.Bool.{or_parts}
use Rattle.space_model.specs.Apart.{In, Pairs}

-- ---- members

pub in_append : {X : Type 0} (xs ys : List X) (x : X) → In x (xs ++ ys) → In x xs ⊎ In x ys
in_append [] ys x a = inr a
in_append (z ∷ zs) ys x a = ⊎_elim (λ here. inl (inl here)) (λ later. ⊎_elim (λ b. inl (inr b)) (λ b. inr b) (in_append zs ys x later)) a

pub in_front : {X : Type 0} (xs ys : List X) (x : X) → In x xs → In x (xs ++ ys)
in_front [] ys x a = absurd a
in_front (z ∷ zs) ys x a = ⊎_elim (λ here. inl here) (λ later. inr (in_front zs ys x later)) a

pub in_behind : {X : Type 0} (xs ys : List X) (x : X) → In x ys → In x (xs ++ ys)
in_behind [] ys x a = a
in_behind (z ∷ zs) ys x a = inr (in_behind zs ys x a)

pub in_option : {X : Type 0} (o : Option X) (xs : List X) (x : X) → In x (cons_option o xs) → (o ≡ Some x) ⊎ In x xs
in_option None xs x a = inr a
in_option (Some y) xs x a = ⊎_elim (λ here. inl (ap Some here)) (λ later. inr later) a

pub option_in : {X : Type 0} (o : Option X) (xs : List X) (x : X) → o ≡ Some x → In x (cons_option o xs)
option_in None xs x e = absurd (cc e)
option_in (Some y) xs x e = inl (cc e)

pub in_more : {X : Type 0} (o : Option X) (xs : List X) (x : X) → In x xs → In x (cons_option o xs)
in_more None xs x a = a
in_more (Some y) xs x a = inr a

pub any_none : {X : Type 0} (test : X → Bool) (xs : List X) (x : X) → list_any test xs ≡ false → In x xs → test x ≡ false
any_none test [] x e a = absurd a
any_none test (y ∷ ys) x e a = let p = or_parts (test y) (list_any test ys) e in
    ⊎_elim (λ here. subst (λ z. test z ≡ false) here p.0) (λ later. any_none test ys x p.1 later) a

pub in_mapped : {X Y : Type 0} (f : X → Y) (xs : List X) (y : Y) → In y (map f xs) → (x : X) × In x xs × (f x ≡ y)
in_mapped f [] y a = absurd a
in_mapped f (x ∷ xs) y a = ⊎_elim (λ here. (x, inl refl, here)) (λ later. let r = in_mapped f xs y later in (r.0, inr r.1, r.2)) a

pub in_filter_map : {X Y : Type 0} (f : X → Option Y) (xs : List X) (y : Y) → In y (filter_map f xs) → (x : X) × In x xs × (f x ≡ Some y)
in_filter_map f [] y a = absurd a
in_filter_map f (x ∷ xs) y a = ⊎_elim
    (λ here. (x, inl refl, here)) (λ later. let r = in_filter_map f xs y later in (r.0, inr r.1, r.2)) (in_option (f x) (filter_map f xs) y a)

pub mapped_in : {X Y : Type 0} (f : X → Y) (xs : List X) (x : X) → In x xs → In (f x) (map f xs)
mapped_in f [] x a = absurd a
mapped_in f (z ∷ zs) x a = ⊎_elim (λ here. inl (ap f here)) (λ later. inr (mapped_in f zs x later)) a

pub filter_map_in : {X Y : Type 0} (f : X → Option Y) (xs : List X) (x : X) (y : Y) → In x xs → f x ≡ Some y → In y (filter_map f xs)
filter_map_in f [] x y a e = absurd a
filter_map_in f (z ∷ zs) x y a e = ⊎_elim
    (λ here. option_in (f z) (filter_map f zs) y (ap f here ∙ e))
    (λ later. in_more (f z) (filter_map f zs) y (filter_map_in f zs x y later e)) a

filtered_first : {X : Type 0} (b : Bool) (x y : X) (kept : List X) → In y (cond b (x ∷ kept) kept) → (x ≡ y) ⊎ In y kept
filtered_first true x y kept a = a
filtered_first false x y kept a = inr a

first_passes : {X : Type 0} (test : X → Bool) (x y : X) (kept : List X) (b : Bool) → test x ≡ b → (In y kept → test y ≡ true) → In y (cond b (x ∷ kept) kept)
    → test y ≡ true
first_passes test x y kept true e rest a = ⊎_elim (λ here. subst (λ z. test z ≡ true) here e) rest a
first_passes test x y kept false e rest a = rest a

-- what a filter keeps was there and passes
pub in_filter : {X : Type 0} (test : X → Bool) (xs : List X) (y : X) → In y (filter test xs) → In y xs
in_filter test [] y a = absurd a
in_filter test (x ∷ xs) y a = ⊎_elim (λ here. inl here) (λ later. inr (in_filter test xs y later)) (filtered_first (test x) x y (filter test xs) a)

pub filter_passes : {X : Type 0} (test : X → Bool) (xs : List X) (y : X) → In y (filter test xs) → test y ≡ true
filter_passes test [] y a = absurd a
filter_passes test (x ∷ xs) y a = first_passes test x y (filter test xs) (test x) refl (filter_passes test xs y) a

-- ---- pairs

pub pairs_append : {X : Type 0} (R : X → X → Type 0) (xs ys : List X) → Pairs R xs → Pairs R ys → ((x y : X) → In x xs → In y ys → R x y) → Pairs R (xs ++ ys)
pairs_append R [] ys p q cross = q
pairs_append R (x ∷ xs) ys p q cross = (
  λ y a. ⊎_elim (λ front. p.0 y front) (λ behind. cross x y (inl refl) behind) (in_append xs ys y a),
  pairs_append R xs ys p.1 q (λ z y a b. cross z y (inr a) b),
)

pub pairs_front : {X : Type 0} (R : X → X → Type 0) (xs ys : List X) → Pairs R (xs ++ ys) → Pairs R xs
pairs_front R [] ys p = tt
pairs_front R (x ∷ xs) ys p = (λ y a. p.0 y (in_front xs ys y a), pairs_front R xs ys p.1)

pub pairs_behind : {X : Type 0} (R : X → X → Type 0) (xs ys : List X) → Pairs R (xs ++ ys) → Pairs R ys
pairs_behind R [] ys p = p
pairs_behind R (x ∷ xs) ys p = pairs_behind R xs ys p.1

pub pairs_cross : {X : Type 0} (R : X → X → Type 0) (xs ys : List X) → Pairs R (xs ++ ys) → (x y : X) → In x xs → In y ys → R x y
pairs_cross R [] ys p x y a b = absurd a
pairs_cross R (z ∷ zs) ys p x y a b = ⊎_elim
    (λ here. subst (λ w. R w y) here (p.0 y (in_behind zs ys y b))) (λ later. pairs_cross R zs ys p.1 x y later b) a

pub pairs_option : {X : Type 0} (R : X → X → Type 0) (o : Option X) (xs : List X) → ((x y : X) → o ≡ Some x → In y xs → R x y) → Pairs R xs
    → Pairs R (cons_option o xs)
pairs_option R None xs first rest = rest
pairs_option R (Some x) xs first rest = (λ y a. first x y refl a, rest)

pub option_first : {X : Type 0} (R : X → X → Type 0) (o : Option X) (xs : List X) → Pairs R (cons_option o xs) → (x y : X) → o ≡ Some x → In y xs → R x y
option_first R None xs p x y e a = absurd (cc e)
option_first R (Some z) xs p x y e a = let same : z ≡ x = cc e in subst (λ w. R w y) same (p.0 y a)

pub option_rest : {X : Type 0} (R : X → X → Type 0) (o : Option X) (xs : List X) → Pairs R (cons_option o xs) → Pairs R xs
option_rest R None xs p = p
option_rest R (Some z) xs p = p.1

filtered_pairs : {X : Type 0} (R : X → X → Type 0) (b : Bool) (x : X) (kept : List X) → ((y : X) → In y kept → R x y) → Pairs R kept
    → Pairs R (cond b (x ∷ kept) kept)
filtered_pairs R true x kept first rest = (first, rest)
filtered_pairs R false x kept first rest = rest

pub pairs_filter : {X : Type 0} (R : X → X → Type 0) (test : X → Bool) (xs : List X) → Pairs R xs → Pairs R (filter test xs)
pairs_filter R test [] p = tt
pairs_filter R test (x ∷ xs) p = filtered_pairs R (test x) x (filter test xs) (λ y a. p.0 y (in_filter test xs y a)) (pairs_filter R test xs p.1)

pub pairs_filter_map : {X Y : Type 0} (R : X → X → Type 0) (S : Y → Y → Type 0) (f : X → Option Y) (xs : List X)
    → ((x y : X) (u v : Y) → R x y → f x ≡ Some u → f y ≡ Some v → S u v) → Pairs R xs → Pairs S (filter_map f xs)
pairs_filter_map R S f [] so p = tt
pairs_filter_map R S f (x ∷ xs) so p =
    pairs_option S (f x) (filter_map f xs) (λ u v e a. let r = in_filter_map f xs v a in so x r.0 u v (p.0 r.0 r.1) e r.2) (pairs_filter_map R S f xs so p.1)

-- of mapped elements
pub pairs_map : {X Y : Type 0} (R : X → X → Type 0) (S : Y → Y → Type 0) (f : X → Y) (xs : List X) → ((x y : X) → R x y → S (f x) (f y)) → Pairs R xs
    → Pairs S (map f xs)
pairs_map R S f [] so p = tt
pairs_map R S f (x ∷ xs) so p =
    (λ v a. let r = in_mapped f xs v a in subst (λ w. S (f x) w) r.2 (so x r.0 (p.0 r.0 r.1)), pairs_map R S f xs so p.1)

pub map_pairs : {X Y : Type 0} (S : Y → Y → Type 0) (f : X → Y) (xs : List X) → Pairs S (map f xs) → Pairs (λ x y. S (f x) (f y)) xs
map_pairs S f [] p = tt
map_pairs S f (x ∷ xs) p = (λ y a. p.0 (f y) (mapped_in f xs y a), map_pairs S f xs p.1)
