-- That no two entries have the same unit, after a call.
use Rattle.std.proofs.Common.{◌≡◌, ◌≢◌, ◌≤◌, ◌⊎◌, inl, inr, ⊎_elim, ℕ, zero, suc, ◌+◌, List, [], ◌∷◌, ◌++◌, map, filter, set, sym, ap, ◌∙◌, arith}
use Rattle.std.specs.List.{range_with_len}
use Rattle.std.proofs.lemmas.Bool.{eqb-true}
use Rattle.space_model.specs.Apart.{In, Pairs}
use Rattle.space_model.specs.Slots.{slot_of}
use Rattle.space_model.proofs.Members.{in_append, in_front, in_behind, in_filter, filter_passes, pairs_append, pairs_front, pairs_behind, pairs_cross, pairs_filter}
use Rattle.file_model.specs.declared.entry.Entry.{Entry}
use Rattle.slot_table.specs.BySlot.{BySlot, entries_at, entries_in, stands_in, parted, HasOtherUnit, LacksUnit}

-- ---- entries of one unit are one

pub one_entry : (es : List Entry) (x y : Entry) → Pairs HasOtherUnit es → In x es → In y es → x.unit ≡ y.unit → x ≡ y
one_entry [] x y apart a b same = absurd a
one_entry (e ∷ es) x y apart a b same = ⊎_elim
    (λ (x_first : e ≡ x). ⊎_elim
    (λ (y_first : e ≡ y). sym x_first ∙ y_first)
    (λ (y_later : In y es). absurd (apart.0 y y_later (ap (λ (z : Entry). z.unit) x_first ∙ same))) b)
    (λ (x_later : In x es). ⊎_elim
    (λ (y_first : e ≡ y). absurd (apart.0 x x_later (ap (λ (z : Entry). z.unit) y_first ∙ sym same)))
    (λ (y_later : In y es). one_entry es x y apart.1 x_later y_later same) b) a

-- the entries of one slot
pub apart_at : (b : BySlot) (k : ℕ) → Pairs HasOtherUnit (entries_in b) → Pairs HasOtherUnit (entries_at b k)
apart_at [] k apart = tt
apart_at (x ∷ xs) zero apart = pairs_front HasOtherUnit x (entries_in xs) apart
apart_at (x ∷ xs) (suc k) apart = apart_at xs k (pairs_behind HasOtherUnit x (entries_in xs) apart)

-- ---- one more entry

in_set : (b : BySlot) (k : ℕ) (e x : Entry) → In x (entries_in (set b k (entries_at b k ++ e ∷ []))) → (e ≡ x) ⊎ In x (entries_in b)
in_set [] k e x a = absurd a
in_set (y ∷ ys) zero e x a = ⊎_elim
    (λ (first : In x (y ++ e ∷ [])). ⊎_elim
    (λ (old : In x y). inr (in_front y (entries_in ys) x old))
    (λ (new : (e ≡ x) ⊎ ⊥). ⊎_elim (λ (is : e ≡ x). inl is) (λ none. absurd none) new)
    (in_append y (e ∷ []) x first))
    (λ (later : In x (entries_in ys)). inr (in_behind y (entries_in ys) x later))
    (in_append (y ++ e ∷ []) (entries_in ys) x a)
in_set (y ∷ ys) (suc k) e x a = ⊎_elim
    (λ (first : In x y). inr (in_front y (entries_in ys) x first))
    (λ (later : In x (entries_in (set ys k (entries_at ys k ++ e ∷ [])))). ⊎_elim
    (λ (is : e ≡ x). inl is) (λ (old : In x (entries_in ys)). inr (in_behind y (entries_in ys) x old)) (in_set ys k e x later))
    (in_append y (entries_in (set ys k (entries_at ys k ++ e ∷ []))) x a)

first_added : (y rest : List Entry) (e : Entry) → Pairs HasOtherUnit (y ++ rest) → ((x : Entry) → In x (y ++ rest) → x.unit ≢ e.unit)
    → Pairs HasOtherUnit ((y ++ e ∷ []) ++ rest)
first_added y rest e apart lacks =
    pairs_append HasOtherUnit (y ++ e ∷ []) rest
    (pairs_append HasOtherUnit y (e ∷ []) (pairs_front HasOtherUnit y rest apart) ((λ z none. absurd none), tt)
    (λ x z x_in z_in same. ⊎_elim
    (λ (is : e ≡ z). lacks x (in_front y rest x x_in) (same ∙ ap (λ (w : Entry). w.unit) (sym is))) (λ none. absurd none) z_in))
    (pairs_behind HasOtherUnit y rest apart)
    (λ x z x_in z_in same. ⊎_elim
    (λ (old : In x y). pairs_cross HasOtherUnit y rest apart x z old z_in same)
    (λ (new : (e ≡ x) ⊎ ⊥). ⊎_elim
    (λ (is : e ≡ x). lacks z (in_behind y rest z z_in) (sym same ∙ ap (λ (w : Entry). w.unit) (sym is))) (λ none. absurd none) new)
    (in_append y (e ∷ []) x x_in))

pub apart_added : (b : BySlot) (k : ℕ) (e : Entry) → Pairs HasOtherUnit (entries_in b) → LacksUnit b e.unit
    → Pairs HasOtherUnit (entries_in (set b k (entries_at b k ++ e ∷ [])))
apart_added [] k e apart lacks = tt
apart_added (y ∷ ys) zero e apart lacks = first_added y (entries_in ys) e apart lacks
apart_added (y ∷ ys) (suc k) e apart lacks =
    pairs_append HasOtherUnit y (entries_in (set ys k (entries_at ys k ++ e ∷ []))) (pairs_front HasOtherUnit y (entries_in ys) apart)
    (apart_added ys k e (pairs_behind HasOtherUnit y (entries_in ys) apart) (λ x a. lacks x (in_behind y (entries_in ys) x a)))
    (λ x z x_in z_in same. ⊎_elim
    (λ (is : e ≡ z). lacks x (in_front y (entries_in ys) x x_in) (same ∙ ap (λ (w : Entry). w.unit) (sym is)))
    (λ (old : In z (entries_in ys)). pairs_cross HasOtherUnit y (entries_in ys) apart x z x_in old same)
    (in_set ys k e z z_in))

-- ---- other slots

abbrev from_slot : ℕ → List Entry → ℕ → ℕ → List Entry
from_slot slots es a n = entries_in (map (λ k. filter (stands_in slots k) es) (range_with_len a n))

from_is : (slots : ℕ) (es : List Entry) (a n : ℕ) (x : Entry) → In x (from_slot slots es a n) → In x es × (a ≤ slot_of x.hash slots)
from_is slots es a zero x i = absurd i
from_is slots es a (suc n) x i = ⊎_elim
    (λ (here : In x (filter (stands_in slots a) es)).
    let is = eqb-true (slot_of x.hash slots) a (filter_passes (stands_in slots a) es x here) in
    (in_filter (stands_in slots a) es x here, omega (arith, is)))
    (λ (later : In x (from_slot slots es (a + 1) n)). let r = from_is slots es (a + 1) n x later in let l = r.1 in (r.0, omega (arith, l)))
    (in_append (filter (stands_in slots a) es) (from_slot slots es (a + 1) n) x i)

apart_from : (slots : ℕ) (es : List Entry) (a n : ℕ) → Pairs HasOtherUnit es → Pairs HasOtherUnit (from_slot slots es a n)
apart_from slots es a zero apart = tt
apart_from slots es a (suc n) apart =
    pairs_append HasOtherUnit (filter (stands_in slots a) es) (from_slot slots es (a + 1) n) (pairs_filter HasOtherUnit (stands_in slots a) es apart)
    (apart_from slots es (a + 1) n apart)
    (λ x y x_in y_in same.
    let later = from_is slots es (a + 1) n y y_in in
    let one = one_entry es x y apart (in_filter (stands_in slots a) es x x_in) later.0 same in
    let here = eqb-true (slot_of x.hash slots) a (filter_passes (stands_in slots a) es x x_in) in
    let stood : slot_of x.hash slots ≡ slot_of y.hash slots = ap (λ (z : Entry). slot_of z.hash slots) one in
    let l = later.1 in
    omega (arith, here, stood, l))

pub apart_parted : (slots : ℕ) (es : List Entry) → Pairs HasOtherUnit es → Pairs HasOtherUnit (entries_in (parted slots es))
apart_parted slots es apart = apart_from slots es 0 slots apart
