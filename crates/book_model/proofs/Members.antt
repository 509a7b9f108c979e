-- Members of lists, and what holds of each member and each one behind it.
use Rattle.std.proofs.Common.{◌≡◌, ◌⊎◌, inl, inr, ⊎_elim, Bool, true, List, [], ◌∷◌, ◌++◌, map, filter, Option, Some, None, refl, sym, ap, ◌∙◌, subst}
use Rattle.std.specs.Prelude.{filter_map}
use Rattle.std.specs.List.{list_any, cons_option}
use Rattle.std.proofs.lemmas.Bool.{cases_Bool, both_ways, or_cases, or_left, or_right}
use Rattle.space_model.specs.Apart.{In, Pairs, SameMembers}

-- ---- members

pub in_append : {X : Type 0} (xs ys : List X) (x : X) → In x (xs ++ ys) → In x xs ⊎ In x ys
in_append [] ys x a = inr a
in_append (z ∷ zs) ys x a =
    ⊎_elim (λ here. inl (inl here)) (λ later. ⊎_elim (λ front. inl (inr front)) (λ behind. inr behind) (in_append zs ys x later)) a

pub append_in : {X : Type 0} (xs ys : List X) (x : X) → In x xs ⊎ In x ys → In x (xs ++ ys)
append_in [] ys x a = ⊎_elim (λ none. absurd none) (λ behind. behind) a
append_in (z ∷ zs) ys x a = ⊎_elim
    (λ front. ⊎_elim (λ here. inl here) (λ later. inr (append_in zs ys x (inl later))) front)
    (λ behind. inr (append_in zs ys x (inr behind)))
    a

pub map_in : {X Y : Type 0} (f : X → Y) (xs : List X) (x : X) → In x xs → In (f x) (map f xs)
map_in f [] x a = absurd a
map_in f (z ∷ zs) x a = ⊎_elim (λ here. inl (ap f here)) (λ later. inr (map_in f zs x later)) a

pub in_map : {X Y : Type 0} (f : X → Y) (xs : List X) (y : Y) → In y (map f xs) → (x : X) × In x xs × (f x ≡ y)
in_map f [] y a = absurd a
in_map f (x ∷ xs) y a = ⊎_elim (λ here. (x, inl refl, here)) (λ later. let r = in_map f xs y later in (r.0, inr r.1, r.2)) a

option_in : {X : Type 0} (o : Option X) (xs : List X) (x : X) → (o ≡ Some x) ⊎ In x xs → In x (cons_option o xs)
option_in None xs x a = ⊎_elim (λ some. absurd (cc some)) (λ later. later) a
option_in (Some y) xs x a = ⊎_elim (λ some. let same : y ≡ x = cc some in inl same) (λ later. inr later) a

in_option : {X : Type 0} (o : Option X) (xs : List X) (x : X) → In x (cons_option o xs) → (o ≡ Some x) ⊎ In x xs
in_option None xs x a = inr a
in_option (Some y) xs x a = ⊎_elim (λ here. inl (ap Some here)) (λ later. inr later) a

pub filter_map_in : {X Y : Type 0} (f : X → Option Y) (xs : List X) (x : X) (y : Y) → In x xs → f x ≡ Some y → In y (filter_map f xs)
filter_map_in f [] x y a some = absurd a
filter_map_in f (z ∷ zs) x y a some = option_in (f z) (filter_map f zs) y (⊎_elim
    (λ here. inl (ap f here ∙ some))
    (λ later. inr (filter_map_in f zs x y later some))
    a)

pub in_filter_map : {X Y : Type 0} (f : X → Option Y) (xs : List X) (y : Y) → In y (filter_map f xs) → (x : X) × In x xs × (f x ≡ Some y)
in_filter_map f [] y a = absurd a
in_filter_map f (x ∷ xs) y a = ⊎_elim
    (λ here. (x, inl refl, here)) (λ later. let r = in_filter_map f xs y later in (r.0, inr r.1, r.2)) (in_option (f x) (filter_map f xs) y a)

pub in_filter : {X : Type 0} (test : X → Bool) (xs : List X) (x : X) → In x (filter test xs) → In x xs × (test x ≡ true)
in_filter test [] x a = absurd a
in_filter test (y ∷ ys) x a = ⊎_elim
    (λ keep. ⊎_elim
    (λ here. (inl here, subst (λ z. test z ≡ true) here keep))
    (λ later. let r = in_filter test ys x later in (inr r.0, r.1))
    (rw keep at a))
    (λ drop. let r = in_filter test ys x (rw drop at a) in (inr r.0, r.1))
    (cases_Bool (test y))

pub filter_in : {X : Type 0} (test : X → Bool) (xs : List X) (x : X) → In x xs → test x ≡ true → In x (filter test xs)
filter_in test [] x a is = absurd a
filter_in test (y ∷ ys) x a is = ⊎_elim
    (λ keep. rw keep (⊎_elim (λ here. inl here) (λ later. inr (filter_in test ys x later is)) a))
    (λ drop. rw drop (⊎_elim
    (λ here. absurd (both_ways _ drop (subst (λ z. test z ≡ true) (sym here) is)))
    (λ later. filter_in test ys x later is)
    a))
    (cases_Bool (test y))

-- ---- tests of members

pub record Passes {X : Type 0} (test : X → Bool) (xs : List X) : Type 0 where
  pub member : X
  pub there : In member xs
  pub is : test member ≡ true

pub any_passes : {X : Type 0} (test : X → Bool) (xs : List X) → list_any test xs ≡ true → Passes test xs
any_passes test [] e = absurd (cc e)
any_passes test (x ∷ xs) e = ⊎_elim
    (λ here. record { member = x; there = inl refl; is = here })
    (λ later. let r = any_passes test xs later in record { member = r.member; there = inr r.there; is = r.is })
    (or_cases (test x) (list_any test xs) e)

pub passes_any : {X : Type 0} (test : X → Bool) (xs : List X) (x : X) → In x xs → test x ≡ true → list_any test xs ≡ true
passes_any test [] x a is = absurd a
passes_any test (y ∷ ys) x a is = ⊎_elim
    (λ here. or_left (test y) (list_any test ys) (subst (λ z. test z ≡ true) (sym here) is))
    (λ later. or_right (test y) (list_any test ys) (passes_any test ys x later is))
    a

-- ---- pairs

-- two members are the same, or one stands in front of the other
pub two_of : {X : Type 0} (R : X → X → Type 0) (xs : List X) (x y : X) → Pairs R xs → In x xs → In y xs → (x ≡ y) ⊎ (R x y ⊎ R y x)
two_of R [] x y p a b = absurd a
two_of R (z ∷ zs) x y p a b = ⊎_elim
    (λ x_here. ⊎_elim
    (λ y_here. inl (sym x_here ∙ y_here)) (λ y_later. inr (inl (subst (λ w. R w y) x_here (p.0 y y_later)))) b)
    (λ x_later. ⊎_elim
    (λ y_here. inr (inr (subst (λ w. R w x) y_here (p.0 x x_later)))) (λ y_later. two_of R zs x y p.1 x_later y_later) b)
    a

pub pairs_also : {X : Type 0} (R S : X → X → Type 0) (xs : List X) → ((x y : X) → In x xs → In y xs → R x y → S x y) → Pairs R xs → Pairs S xs
pairs_also R S [] so p = tt
pairs_also R S (x ∷ xs) so p = (λ y a. so x y (inl refl) (inr a) (p.0 y a), pairs_also R S xs (λ y z a b. so y z (inr a) (inr b)) p.1)

pub pairs_filter : {X : Type 0} (R : X → X → Type 0) (test : X → Bool) (xs : List X) → Pairs R xs → Pairs R (filter test xs)
pairs_filter R test [] p = tt
pairs_filter R test (y ∷ ys) p = ⊎_elim
    (λ keep. rw keep ((λ z a. p.0 z (in_filter test ys z a).0), pairs_filter R test ys p.1))
    (λ drop. rw drop (pairs_filter R test ys p.1))
    (cases_Bool (test y))

pub pairs_append : {X : Type 0} (R : X → X → Type 0) (xs ys : List X) → Pairs R xs → Pairs R ys → ((x y : X) → In x xs → In y ys → R x y)
    → Pairs R (xs ++ ys)
pairs_append R [] ys p q cross = q
pairs_append R (x ∷ xs) ys p q cross = (
  λ y a. ⊎_elim (λ front. p.0 y front) (λ behind. cross x y (inl refl) behind) (in_append xs ys y a),
  pairs_append R xs ys p.1 q (λ z y a b. cross z y (inr a) b),
)

pub pairs_map : {X Y : Type 0} (R : X → X → Type 0) (S : Y → Y → Type 0) (f : X → Y) (xs : List X) → ((x y : X) → R x y → S (f x) (f y)) → Pairs R xs
    → Pairs S (map f xs)
pairs_map R S f [] so p = tt
pairs_map R S f (x ∷ xs) so p =
    (λ v a. let r = in_map f xs v a in subst (λ w. S (f x) w) r.2 (so x r.0 (p.0 r.0 r.1)), pairs_map R S f xs so p.1)

option_pairs : {X : Type 0} (R : X → X → Type 0) (o : Option X) (xs : List X) → ((x y : X) → o ≡ Some x → In y xs → R x y) → Pairs R xs
    → Pairs R (cons_option o xs)
option_pairs R None xs first rest = rest
option_pairs R (Some x) xs first rest = (λ y a. first x y refl a, rest)

pairs_option : {X : Type 0} (R : X → X → Type 0) (o : Option X) (xs : List X) → Pairs R (cons_option o xs)
    → ((x y : X) → o ≡ Some x → In y xs → R x y) × Pairs R xs
pairs_option R None xs p = ((λ x y none a. absurd (cc none)), p)
pairs_option R (Some z) xs p = ((λ x y some a. let same : z ≡ x = cc some in subst (λ w. R w y) same (p.0 y a)), p.1)

-- of what members are mapped to, if they are
abbrev pub Through : {X Y : Type 0} → (X → Option Y) → (Y → Y → Type 0) → X → X → Type 0
Through {X} {Y} f R x y = (u v : Y) → f x ≡ Some u → f y ≡ Some v → R u v

pub pairs_filter_map : {X Y : Type 0} (f : X → Option Y) (R : Y → Y → Type 0) (xs : List X) → Pairs (Through f R) xs → Pairs R (filter_map f xs)
pairs_filter_map f R [] p = tt
pairs_filter_map f R (x ∷ xs) p = option_pairs R (f x) (filter_map f xs)
    (λ u v some a. let r = in_filter_map f xs v a in p.0 r.0 r.1 u v some r.2)
    (pairs_filter_map f R xs p.1)

pub filter_map_pairs : {X Y : Type 0} (f : X → Option Y) (R : Y → Y → Type 0) (xs : List X) → Pairs R (filter_map f xs) → Pairs (Through f R) xs
filter_map_pairs f R [] p = tt
filter_map_pairs f R (x ∷ xs) p =
    let r = pairs_option R (f x) (filter_map f xs) p in
    (λ y a u v first second. r.0 u v first (filter_map_in f xs y v a second), filter_map_pairs f R xs r.1)

-- ---- the same members

pub same_self : {X : Type 0} (xs : List X) → SameMembers xs xs
same_self xs = record { there = λ x a. a; back = λ x a. a }

pub same_back : {X : Type 0} (xs ys : List X) → SameMembers xs ys → SameMembers ys xs
same_back xs ys s = record { there = s.back; back = s.there }

pub same_through : {X : Type 0} (xs ys zs : List X) → SameMembers xs ys → SameMembers ys zs → SameMembers xs zs
same_through xs ys zs s t = record { there = λ x a. t.there x (s.there x a); back = λ x a. s.back x (t.back x a) }

pub same_append : {X : Type 0} (xs ys us vs : List X) → SameMembers xs us → SameMembers ys vs → SameMembers (xs ++ ys) (us ++ vs)
same_append xs ys us vs s t = record {
  there = λ x a. append_in us vs x (⊎_elim (λ front. inl (s.there x front)) (λ behind. inr (t.there x behind)) (in_append xs ys x a));
  back = λ x a. append_in xs ys x (⊎_elim (λ front. inl (s.back x front)) (λ behind. inr (t.back x behind)) (in_append us vs x a));
}

pub same_map : {X Y : Type 0} (f : X → Y) (xs ys : List X) → SameMembers xs ys → SameMembers (map f xs) (map f ys)
same_map f xs ys s = record {
  there = λ y a. let r = in_map f xs y a in subst (λ z. In z (map f ys)) r.2 (map_in f ys r.0 (s.there r.0 r.1));
  back = λ y a. let r = in_map f ys y a in subst (λ z. In z (map f xs)) r.2 (map_in f xs r.0 (s.back r.0 r.1));
}

pub same_more : {X : Type 0} (x : X) (xs ys : List X) → SameMembers xs ys → SameMembers (x ∷ xs) (x ∷ ys)
same_more x xs ys s = record {
  there = λ y a. ⊎_elim (λ here. inl here) (λ later. inr (s.there y later)) a;
  back = λ y a. ⊎_elim (λ here. inl here) (λ later. inr (s.back y later)) a;
}
