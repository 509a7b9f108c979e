-- What a filter picks, and what stands at the slots.
use Rattle.std.proofs.Common.{◌≡◌, ◌<◌, ◌⊎◌, inl, inr, ⊎_elim, ℕ, zero, suc, Bool, true, false, cond, List, [], ◌∷◌, ◌++◌, length, filter, refl, sym, ap, ◌∙◌, arith, append-nil}
use Rattle.std.proofs.lemmas.List.Elements.{filter-append}
use Rattle.space_model.specs.Apart.{In}
use Rattle.space_model.proofs.Members.{in_append, in_front, in_behind}
use Rattle.file_model.specs.declared.entry.Entry.{Entry}
use Rattle.slot_table.specs.BySlot.{BySlot, entries_at, entries_in}

-- ---- filters

none_first : {X : Type 0} (b : Bool) (x : X) (kept : List X) → (b ≡ true → ⊥) → kept ≡ [] → cond b (x ∷ kept) kept ≡ []
none_first true x kept not none = absurd (not refl)
none_first false x kept not none = none

pub filter_none : {X : Type 0} (test : X → Bool) (xs : List X) → ((x : X) → In x xs → test x ≡ true → ⊥) → filter test xs ≡ []
filter_none test [] never = refl
filter_none test (x ∷ xs) never = none_first (test x) x (filter test xs) (never x (inl refl)) (filter_none test xs (λ y a. never y (inr a)))

all_first : {X : Type 0} (b : Bool) (x : X) (kept xs : List X) → b ≡ true → kept ≡ xs → cond b (x ∷ kept) kept ≡ x ∷ xs
all_first true x kept xs passes all = ap (λ ys. x ∷ ys) all
all_first false x kept xs passes all = absurd (cc passes)

pub filter_all : {X : Type 0} (test : X → Bool) (xs : List X) → ((x : X) → In x xs → test x ≡ true) → filter test xs ≡ xs
filter_all test [] all = refl
filter_all test (x ∷ xs) all = all_first (test x) x (filter test xs) xs (all x (inl refl)) (filter_all test xs (λ y a. all y (inr a)))

kept_first : {X : Type 0} (b : Bool) (x y : X) (kept : List X) → (b ≡ true → y ≡ x) ⊎ In y kept → b ≡ true → In y (cond b (x ∷ kept) kept)
kept_first true x y kept place passes = ⊎_elim (λ here. inl (sym (here refl))) (λ later. inr later) place
kept_first false x y kept place passes = absurd (cc passes)

kept_later : {X : Type 0} (b : Bool) (x y : X) (kept : List X) → In y kept → In y (cond b (x ∷ kept) kept)
kept_later true x y kept a = inr a
kept_later false x y kept a = a

-- what was there and passes is picked
pub filter_in : {X : Type 0} (test : X → Bool) (xs : List X) (y : X) → In y xs → test y ≡ true → In y (filter test xs)
filter_in test [] y a passes = absurd a
filter_in test (x ∷ xs) y a passes = ⊎_elim
    (λ (here : x ≡ y). kept_first (test x) x y (filter test xs) (inl (λ _. sym here)) (ap test here ∙ passes))
    (λ later. kept_later (test x) x y (filter test xs) (filter_in test xs y later passes)) a

-- ---- slots

pub in_entries : (b : BySlot) (k : ℕ) (e : Entry) → In e (entries_at b k) → In e (entries_in b)
in_entries [] k e a = absurd a
in_entries (x ∷ xs) zero e a = in_front x (entries_in xs) e a
in_entries (x ∷ xs) (suc k) e a = in_behind x (entries_in xs) e (in_entries xs k e a)

pub record StandsAt (b : BySlot) (e : Entry) : Type 0 where
  pub slot : ℕ
  pub below : slot < length b
  pub there : In e (entries_at b slot)

behind_first : (x : List Entry) (xs : BySlot) (e : Entry) → StandsAt xs e → StandsAt (x ∷ xs) e
behind_first x xs e s = record { slot = suc s.slot; below = omega (arith, s.below); there = s.there }

pub stands_at : (b : BySlot) (e : Entry) → In e (entries_in b) → StandsAt b e
stands_at [] e a = absurd a
stands_at (x ∷ xs) e a = ⊎_elim
    (λ (here : In e x). record { slot = 0; below = omega arith; there = here })
    (λ later. behind_first x xs e (stands_at xs e later)) (in_append x (entries_in xs) e a)

-- of all entries a test picks those of the one slot that has such entries
pub picked_at : (test : Entry → Bool) (b : BySlot) (s : ℕ) → ((k : ℕ) (e : Entry) → In e (entries_at b k) → test e ≡ true → k ≡ s)
    → filter test (entries_in b) ≡ filter test (entries_at b s)
picked_at test [] s own = refl
picked_at test (x ∷ xs) zero own =
    filter-append test x (entries_in xs)
    ∙ ap (λ es. filter test x ++ es)
    (filter_none test (entries_in xs) (λ e a passes. let s = stands_at xs e a in let never : suc s.slot ≡ 0 = own (suc s.slot) e s.there passes in omega (arith, never)))
    ∙ append-nil (filter test x)
picked_at test (x ∷ xs) (suc s) own =
    filter-append test x (entries_in xs)
    ∙ ap (λ es. es ++ filter test (entries_in xs)) (filter_none test x (λ e a passes. let never : 0 ≡ suc s = own 0 e a passes in omega (arith, never)))
    ∙ picked_at test xs s (λ k e a passes. let is : suc k ≡ suc s = own (suc k) e a passes in omega (arith, is))
