-- Which entries are there after a call.
use Rattle.std.proofs.Common.{◌≡◌, ◌≢◌, ◌≤◌, ◌<◌, ◌⊎◌, inl, inr, ⊎_elim, ℕ, List, [], ◌∷◌, ◌++◌, length, filter, refl, sym, ap, ◌∙◌, subst, arith}
use Rattle.std.proofs.lemmas.Bool.{eqb-true, eq-eqb}
use Rattle.std.proofs.lemmas.List.Elements.{filter-append}
use Rattle.std.proofs.lemmas.List.FromFn.{length-map-range_with_len, get_or-map-range_with_len}
use Rattle.space_model.specs.Apart.{In, Pairs}
use Rattle.space_model.specs.Slots.{slot_of}
use Rattle.space_model.proofs.Members.{in_append, in_front, in_behind, in_filter, filter_passes}
use Rattle.space_model.proofs.Splits.{slot_below}
use Rattle.file_model.specs.declared.entry.Entry.{Entry}
use Rattle.slot_table.specs.BySlot.{BySlot, entries_at, entries_in, stands_in, is_other, with_entry, without, parted, HasOtherUnit, LacksUnit}
use Rattle.slot_table.proofs.Picked.{stands_at, in_entries, filter_in}
use Rattle.slot_table.proofs.Apart.{one_entry}
use Rattle.slot_table.proofs.Found.{other_is, other_unit}
use Rattle.slot_table.proofs.Tables.{with_entry_at, length-with_entry}

-- ---- one more entry

at_added : (b : BySlot) (e x : Entry) (k : ℕ) → k < length b → In x (entries_at (with_entry b e) k)
    → ((e ≡ x) × (slot_of e.hash (length b) ≡ k)) ⊎ In x (entries_at b k)
at_added b e x k below a = ⊎_elim
    (λ (old : In x (entries_at b k)). inr old)
    (λ (new : In x (filter (stands_in (length b) k) (e ∷ []))).
    let is : e ≡ x = ⊎_elim (λ (same : e ≡ x). same) (λ none. absurd none) (in_filter (stands_in (length b) k) (e ∷ []) x new) in
    inl (is, ap (λ (y : Entry). slot_of y.hash (length b)) is ∙ eqb-true (slot_of x.hash (length b)) k (filter_passes (stands_in (length b) k) (e ∷ []) x new)))
    (in_append (entries_at b k) (filter (stands_in (length b) k) (e ∷ [])) x (subst (λ (es : List Entry). In x es) (with_entry_at b e k below) a))

pub in_added : (b : BySlot) (e x : Entry) → In x (entries_in (with_entry b e)) → (e ≡ x) ⊎ In x (entries_in b)
in_added b e x a =
    let s = stands_at (with_entry b e) x a in
    let below : s.slot < length b = subst (λ n. s.slot < n) (length-with_entry b e) s.below in
    ⊎_elim (λ new. inl new.0) (λ old. inr (in_entries b s.slot x old)) (at_added b e x s.slot below s.there)

pub own_added : (b : BySlot) (e x : Entry) (k : ℕ) → k < length b → (In x (entries_at b k) → slot_of x.hash (length b) ≡ k) → In x (entries_at (with_entry b e) k)
    → slot_of x.hash (length b) ≡ k
own_added b e x k below own a = ⊎_elim
    (λ (new : (e ≡ x) × (slot_of e.hash (length b) ≡ k)). ap (λ (y : Entry). slot_of y.hash (length b)) (sym new.0) ∙ new.1)
    (λ (old : In x (entries_at b k)). own old) (at_added b e x k below a)

pub added_old : (b : BySlot) (e x : Entry) → In x (entries_in b) → In x (entries_in (with_entry b e))
added_old b e x a =
    let s = stands_at b x a in
    in_entries (with_entry b e) s.slot x (subst (λ (es : List Entry). In x es) (sym (with_entry_at b e s.slot s.below))
    (in_front (entries_at b s.slot) (filter (stands_in (length b) s.slot) (e ∷ [])) x s.there))

pub added_new : (b : BySlot) (e : Entry) → 1 ≤ length b → In e (entries_in (with_entry b e))
added_new b e some =
    let k = slot_of e.hash (length b) in
    in_entries (with_entry b e) k e (subst (λ (es : List Entry). In e es) (sym (with_entry_at b e k (slot_below e.hash (length b) some)))
    (in_behind (entries_at b k) (filter (stands_in (length b) k) (e ∷ [])) e
    (filter_in (stands_in (length b) k) (e ∷ []) e (inl refl) (eq-eqb (slot_of e.hash (length b)) k refl))))

-- ---- one entry less

pub entries_in-without : (b : BySlot) (hash unit : ℕ) → entries_in (without b hash unit) ≡ filter (is_other hash unit) (entries_in b)
entries_in-without [] hash unit = refl
entries_in-without (x ∷ xs) hash unit =
    ap (λ (es : List Entry). filter (is_other hash unit) x ++ es) (entries_in-without xs hash unit) ∙ sym (filter-append (is_other hash unit) x (entries_in xs))

in_without : (b : BySlot) (hash unit : ℕ) (x : Entry) → In x (entries_in (without b hash unit)) → In x (filter (is_other hash unit) (entries_in b))
in_without b hash unit x a = subst (λ (es : List Entry). In x es) (entries_in-without b hash unit) a

pub in_removed : (b : BySlot) (e x : Entry) → In x (entries_in (without b e.hash e.unit)) → In x (entries_in b) × (x ≢ e)
in_removed b e x a =
    let picked = in_without b e.hash e.unit x a in
    let other = filter_passes (is_other e.hash e.unit) (entries_in b) x picked in (
      in_filter (is_other e.hash e.unit) (entries_in b) x picked,
      λ (same : x ≡ e). other_is e.hash e.unit x other (ap (λ (y : Entry). y.hash) same) (ap (λ (y : Entry). y.unit) same),
    )

pub removed_other : (b : BySlot) (e x : Entry) → Pairs HasOtherUnit (entries_in b) → In e (entries_in b) → In x (entries_in b) → (x ≢ e)
    → In x (entries_in (without b e.hash e.unit))
removed_other b e x apart e_in x_in other =
    subst (λ (es : List Entry). In x es) (sym (entries_in-without b e.hash e.unit))
    (filter_in (is_other e.hash e.unit) (entries_in b) x x_in
    (other_unit e.hash e.unit x (λ (same : x.unit ≡ e.unit). other (one_entry (entries_in b) x e apart x_in e_in same))))

pub lacks_removed : (b : BySlot) (e : Entry) → Pairs HasOtherUnit (entries_in b) → In e (entries_in b) → LacksUnit (without b e.hash e.unit) e.unit
lacks_removed b e apart e_in x a same =
    let there = in_removed b e x a in
    there.1 (one_entry (entries_in b) x e apart there.0 e_in same)

-- ---- other slots

pub length-parted : (slots : ℕ) (es : List Entry) → length (parted slots es) ≡ slots
length-parted slots es = length-map-range_with_len (λ (k : ℕ). filter (stands_in slots k) es) 0 slots

pub parted_at : (slots k : ℕ) (es : List Entry) → k < slots → entries_at (parted slots es) k ≡ filter (stands_in slots k) es
parted_at slots k es below = get_or-map-range_with_len (λ (j : ℕ). filter (stands_in slots j) es) 0 slots k k [] below (omega arith)

pub in_parted : (slots : ℕ) (es : List Entry) (x : Entry) → In x (entries_in (parted slots es)) → In x es
in_parted slots es x a =
    let s = stands_at (parted slots es) x a in
    let below : s.slot < slots = subst (λ n. s.slot < n) (length-parted slots es) s.below in
    in_filter (stands_in slots s.slot) es x (subst (λ (xs : List Entry). In x xs) (parted_at slots s.slot es below) s.there)

pub parted_old : (slots : ℕ) (es : List Entry) (x : Entry) → 1 ≤ slots → In x es → In x (entries_in (parted slots es))
parted_old slots es x some a =
    let k = slot_of x.hash slots in
    in_entries (parted slots es) k x (subst (λ (xs : List Entry). In x xs) (sym (parted_at slots k es (slot_below x.hash slots some)))
    (filter_in (stands_in slots k) es x a (eq-eqb (slot_of x.hash slots) k refl)))
