-- Lemmas: a place depends on which runs are held, and not on their order or number.
use Rattle.std.proofs.Common.{◌≡◌, inl, inr, ⊎_elim, ℕ, zero, suc, ◌+◌, ◌-◌, ◌/◌, ◌^◌, Bool, true, false, List, [], ◌∷◌, Option, Some, None, refl}
use Rattle.std.proofs.Common.{sym, ap, ◌∙◌, subst}
use Rattle.std.specs.Prelude.{not, ◌&&◌, nat_le}
use Rattle.std.specs.List.{list_any, list_all, range_with_len}
use Rattle.std.proofs.lemmas.Bool.{or_cases, or_left, or_right, cases_Bool, both_ways, false_from_ne_true}
use Rattle.space_model.specs.Runs.{Run, run, end_of, meets, is_free, run_around, is_maximal, or_behind, lowest, or_larger, smallest, front_of_smallest}
use Rattle.space_model.specs.Apart.{In, SameMembers}

any_in : {X : Type 0} (test : X → Bool) (xs : List X) → list_any test xs ≡ true → (x : X) × In x xs × (test x ≡ true)
any_in test [] e = absurd (cc e)
any_in test (x ∷ xs) e = ⊎_elim
    (λ here. (x, inl refl, here)) (λ later. let f = any_in test xs later in (f.0, inr f.1, f.2))
    (or_cases (test x) (list_any test xs) e)

in_any : {X : Type 0} (test : X → Bool) (xs : List X) (x : X) → In x xs → test x ≡ true → list_any test xs ≡ true
in_any test [] x a e = absurd a
in_any test (y ∷ ys) x a e = ⊎_elim
    (λ here. or_left (test y) (list_any test ys) (subst (λ z. test z ≡ true) (sym here) e))
    (λ later. or_right (test y) (list_any test ys) (in_any test ys x later e)) a

pub any_same : {X : Type 0} (test : X → Bool) (xs ys : List X) → SameMembers xs ys → list_any test xs ≡ list_any test ys
any_same test xs ys same = ⊎_elim
    (λ yes. let f = any_in test xs yes in yes ∙ sym (in_any test ys f.0 (same.there f.0 f.1) f.2))
    (λ no. no ∙ sym (false_from_ne_true _ (λ yes. let f = any_in test ys yes in both_ways _ no (in_any test xs f.0 (same.back f.0 f.1) f.2))))
    (cases_Bool (list_any test xs))

pub free_same : (units : ℕ) (xs ys : List Run) (r : Run) → SameMembers xs ys → is_free units xs r ≡ is_free units ys r
free_same units xs ys r same = ap (λ b. nat_le (end_of r) units && not b) (any_same (meets r) xs ys same)

all_agree : (f g : ℕ → Bool) (es : List ℕ) → ((e : ℕ) → f e ≡ g e) → list_all f es ≡ list_all g es
all_agree f g [] same = refl
all_agree f g (e ∷ es) same = ap (λ b. b && list_all f es) (same e) ∙ ap (λ b. g e && b) (all_agree f g es same)

pub maximal_same : (largest units : ℕ) (xs ys : List Run) (r : Run) → SameMembers xs ys → is_maximal largest units xs r ≡ is_maximal largest units ys r
maximal_same largest units xs ys r same =
    let larger = range_with_len (r.exp + 1) (largest - r.exp) in
    ap (λ b. b && list_all (λ e. not (is_free units xs (run_around r.unit e))) larger) (free_same units xs ys r same)
    ∙ ap (λ b. is_free units ys r && b)
    (all_agree (λ e. not (is_free units xs (run_around r.unit e))) (λ e. not (is_free units ys (run_around r.unit e))) larger
    (λ e. ap not (free_same units xs ys (run_around r.unit e) same)))

behind_same : (b : Bool) (unit size : ℕ) (f g : ℕ → Option ℕ) → ((u : ℕ) → f u ≡ g u) → or_behind b unit size f ≡ or_behind b unit size g
behind_same true unit size f g same = refl
behind_same false unit size f g same = same (unit + size)

lowest_same : (largest units : ℕ) (xs ys : List Run) (exp runs unit : ℕ) → SameMembers xs ys
    → lowest largest units xs exp unit runs ≡ lowest largest units ys exp unit runs
lowest_same largest units xs ys exp zero unit same = refl
lowest_same largest units xs ys exp (suc runs) unit same =
    ap (λ b. or_behind b unit (2 ^ exp) (λ behind. lowest largest units xs exp behind runs)) (maximal_same largest units xs ys (run unit exp) same)
    ∙ behind_same (is_maximal largest units ys (run unit exp)) unit (2 ^ exp) (λ behind. lowest largest units xs exp behind runs)
    (λ behind. lowest largest units ys exp behind runs) (λ behind. lowest_same largest units xs ys exp runs behind same)

larger_same : (o : Option ℕ) (exp : ℕ) (f g : ℕ → Option ℕ) → ((e : ℕ) → f e ≡ g e) → or_larger o exp f ≡ or_larger o exp g
larger_same (Some unit) exp f g same = refl
larger_same None exp f g same = same (exp + 1)

smallest_same : (largest units : ℕ) (xs ys : List Run) (exps exp : ℕ) → SameMembers xs ys
    → smallest largest units xs exp exps ≡ smallest largest units ys exp exps
smallest_same largest units xs ys zero exp same = refl
smallest_same largest units xs ys (suc exps) exp same =
    ap (λ o. or_larger o exp (λ larger. smallest largest units xs larger exps)) (lowest_same largest units xs ys exp (units / 2 ^ exp) 0 same)
    ∙ larger_same (lowest largest units ys exp 0 (units / 2 ^ exp)) exp (λ larger. smallest largest units xs larger exps)
    (λ larger. smallest largest units ys larger exps) (λ larger. smallest_same largest units xs ys exps larger same)

pub place_same : (largest units : ℕ) (xs ys : List Run) (exp : ℕ) → SameMembers xs ys
    → front_of_smallest largest units xs exp ≡ front_of_smallest largest units ys exp
place_same largest units xs ys exp same = smallest_same largest units xs ys (suc largest - exp) exp same
