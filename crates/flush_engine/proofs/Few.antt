-- How many entries a directory has at most: no two have the same unit.
use Rattle.std.proofs.Common.{◌≡◌, ◌≤◌, ◌<◌, ⊎_elim, inl, ℕ, zero, suc, ◌+◌, ◌==◌, Bool, true, List, [], ◌∷◌, length, filter, refl, sym, ap, ◌∙◌, arith}
use Rattle.std.specs.Prelude.{not}
use Rattle.std.proofs.lemmas.Bool.{cases_Bool, both_ways, eqb-true, eq-eqb, not-true, not_from_false, false_from_ne_true, cases_eq}
use Rattle.space_model.specs.Apart.{In, Pairs}
use Rattle.file_model.specs.declared.entry.Entry.{Entry}
use Rattle.slot_table.specs.BySlot.{HasOtherUnit}
use Rattle.slot_table.proofs.Picked.{filter_all}
use Rattle.book_model.proofs.Members.{in_filter, pairs_filter}

differs : (a n : ℕ) → not (a == n) ≡ true → a ≡ n → ⊥
differs a n e same = both_ways _ (not-true (a == n) e) (eq-eqb a n same)

different : (a n : ℕ) → (a ≡ n → ⊥) → not (a == n) ≡ true
different a n apart = not_from_false (a == n) (false_from_ne_true (a == n) (λ e. apart (eqb-true a n e)))

-- at most one entry has a unit
one_fewer : (n : ℕ) (es : List Entry) → Pairs HasOtherUnit es → length es ≤ length (filter (λ (e : Entry). not (e.unit == n)) es) + 1
one_fewer n [] p = omega arith
one_fewer n (e ∷ es) p = ⊎_elim
    (λ (is : e.unit ≡ n).
    let all : filter (λ (x : Entry). not (x.unit == n)) es ≡ es =
    filter_all (λ (x : Entry). not (x.unit == n)) es (λ x a. different x.unit n (λ same. p.0 x a (is ∙ sym same))) in
    let more = longer (λ (x : Entry). not (x.unit == n)) e es in
    omega (arith, ap (λ (xs : List Entry). length xs) all, more))
    (λ (other : e.unit ≡ n → ⊥).
    let rest = one_fewer n es p.1 in
    let more : length (filter (λ (x : Entry). not (x.unit == n)) (e ∷ es)) ≡ suc (length (filter (λ (x : Entry). not (x.unit == n)) es)) =
    kept (λ (x : Entry). not (x.unit == n)) e es (different e.unit n other) in
    omega (arith, rest, more))
    (cases_eq e.unit n)
  where
    kept : (test : Entry → Bool) (x : Entry) (xs : List Entry) → test x ≡ true → length (filter test (x ∷ xs)) ≡ suc (length (filter test xs))
    kept test x xs is = rw is refl

    longer : (test : Entry → Bool) (x : Entry) (xs : List Entry) → length (filter test xs) ≤ length (filter test (x ∷ xs))
    longer test x xs = ⊎_elim (λ keep. rw keep (omega arith)) (λ drop. rw drop (omega arith)) (cases_Bool (test x))

pub few_units : (n : ℕ) (es : List Entry) → Pairs HasOtherUnit es → ((e : Entry) → In e es → e.unit < n) → length es ≤ n
few_units zero [] p below = omega arith
few_units zero (e ∷ es) p below = let less = below e (inl refl) in absurd (omega (arith, less))
few_units (suc n) es p below =
    let test : Entry → Bool = λ e. not (e.unit == n) in
    let rest = few_units n (filter test es) (pairs_filter HasOtherUnit test es p) (λ e a.
    let f = in_filter test es e a in
    let less = below e f.0 in
    let other = differs e.unit n f.1 in ⊎_elim
    (λ (same : e.unit ≡ n). absurd (other same))
    (λ (apart : e.unit ≡ n → ⊥). omega (arith, less, apart))
    (cases_eq e.unit n)) in
    let one = one_fewer n es p in
    omega (arith, rest, one)
