-- What stands at a slot after a change of one bucket.
use Rattle.std.proofs.Common.{◌≡◌, ◌≤◌, ◌<◌, ◌≢◌, ⊎_elim, ℕ, ◌+◌, cond, List, [], ◌∷◌, ◌++◌, length, map, filter, get_or, set, take, drop, refl, sym, ap, ◌∙◌, subst, arith, append-nil, append_assoc}
use Rattle.std.proofs.lemmas.Bool.{eq-eqb, ne_eqb, cases_eq}
use Rattle.std.proofs.lemmas.List.{get_or-map, get_or-set_same, get_or-set_other, length-map, length-set, map-set, set-get_or}
use Rattle.std.proofs.Math.Seq.{take-append_seam}
use Rattle.std.proofs.lemmas.List.Elements.{filter-append}
use Rattle.space_model.specs.Slots.{slot_of}
use Rattle.file_model.specs.declared.entry.Entry.{Entry}
use Rattle.slot_table.specs.BySlot.{Slot, BySlot, by_slot, spare_at, entries_at, stands_in, with_entry}
use Rattle.slot_table.specs.Turns.{with_each}

-- ---- one bucket

pub entries_of_bucket : (slots : List Slot) (k : ℕ) (s : Slot) → s ≡ get_or slots k s → k < length slots → entries_at (by_slot slots) k ≡ s.entries
entries_of_bucket slots k s is l = get_or-map (λ (x : Slot). x.entries) slots k s [] l ∙ ap (λ (x : Slot). x.entries) (sym is)

pub spare_of_bucket : (slots : List Slot) (k : ℕ) (s : Slot) → s ≡ get_or slots k s → k < length slots → spare_at slots k ≡ s.spare
spare_of_bucket slots k s is l = get_or-map (λ (x : Slot). x.spare) slots k s 0 l ∙ ap (λ (x : Slot). x.spare) (sym is)

pub by_slot-set : (slots : List Slot) (k : ℕ) (s : Slot) → by_slot (set slots k s) ≡ set (by_slot slots) k s.entries
by_slot-set slots k s = map-set (λ (x : Slot). x.entries) slots k s

pub length-by_slot : (slots : List Slot) → length (by_slot slots) ≡ length slots
length-by_slot slots = length-map slots (λ (x : Slot). x.entries)

pub same_slots : (old new : List Slot) → by_slot new ≡ by_slot old → length new ≡ length old
same_slots old new same = sym (length-by_slot new) ∙ ap (λ (b : BySlot). length b) same ∙ length-by_slot old

-- the slot of a hash among these
pub record IsSlotAmong (slots : List Slot) (hash k : ℕ) : Type 0 where
  pub at : k ≡ slot_of hash (length slots)
  pub below : k < length slots

pub slot_among : (slots now : List Slot) (hash n k : ℕ) → slots ≡ now → n ≡ length now → k ≡ slot_of hash n → k < n → IsSlotAmong slots hash k
slot_among slots now hash n k view long is within =
    let same : n ≡ length slots = long ∙ ap (λ (s : List Slot). length s) (sym view) in
    record { at = is ∙ ap (slot_of hash) same; below = omega (arith, same, within) }

pub entries_set_same : (slots : List Slot) (k : ℕ) (s : Slot) → k < length slots → entries_at (by_slot (set slots k s)) k ≡ s.entries
entries_set_same slots k s l =
    ap (λ (b : BySlot). entries_at b k) (by_slot-set slots k s)
    ∙ get_or-set_same (by_slot slots) k s.entries [] (subst (λ n. k < n) (sym (length-by_slot slots)) l)

pub entries_set_other : (slots : List Slot) (k j : ℕ) (s : Slot) → j ≢ k → entries_at (by_slot (set slots k s)) j ≡ entries_at (by_slot slots) j
entries_set_other slots k j s apart =
    ap (λ (b : BySlot). entries_at b j) (by_slot-set slots k s) ∙ get_or-set_other (by_slot slots) k j s.entries [] apart

pub spare_set_same : (slots : List Slot) (k : ℕ) (s : Slot) → k < length slots → spare_at (set slots k s) k ≡ s.spare
spare_set_same slots k s l =
    ap (λ (ns : List ℕ). get_or ns k 0) (map-set (λ (x : Slot). x.spare) slots k s)
    ∙ get_or-set_same (map (λ (x : Slot). x.spare) slots) k s.spare 0 (subst (λ n. k < n) (sym (length-map slots (λ (x : Slot). x.spare))) l)

pub spare_set_other : (slots : List Slot) (k j : ℕ) (s : Slot) → j ≢ k → spare_at (set slots k s) j ≡ spare_at slots j
spare_set_other slots k j s apart =
    ap (λ (ns : List ℕ). get_or ns j 0) (map-set (λ (x : Slot). x.spare) slots k s)
    ∙ get_or-set_other (map (λ (x : Slot). x.spare) slots) k j s.spare 0 apart

-- room in a bucket that changes, and in the others
pub spare_falls : (slots : List Slot) (k : ℕ) (s new : Slot) → s ≡ get_or slots k s → k < length slots → s.spare ≤ new.spare + 1
    → spare_at slots k ≤ spare_at (set slots k new) k + 1
spare_falls slots k s new is below falls =
    let old = spare_of_bucket slots k s is below in
    let now = spare_set_same slots k new below in
    omega (arith, old, now, falls)

pub spare_stays : (slots : List Slot) (k j : ℕ) (s new : Slot) → s ≡ get_or slots k s → k < length slots → s.spare ≤ new.spare
    → spare_at slots j ≤ spare_at (set slots k new) j
spare_stays slots k j s new is below stays = ⊎_elim
    (λ (same : j ≡ k).
    let old = spare_of_bucket slots k s is below in
    let now = spare_set_same slots k new below in
    subst (λ i. spare_at slots i ≤ spare_at (set slots k new) i) (sym same) (omega (arith, old, now, stays)))
    (λ (apart : j ≡ k → ⊥). let same = spare_set_other slots k j new apart in omega (arith, same))
    (cases_eq j k)

-- a bucket with the same entries
pub same_entries : (slots : List Slot) (k : ℕ) (s new : Slot) → s ≡ get_or slots k s → k < length slots → new.entries ≡ s.entries
    → by_slot (set slots k new) ≡ by_slot slots
same_entries slots k s new is l same =
    by_slot-set slots k new ∙ ap (λ (es : List Entry). set (by_slot slots) k es) (same ∙ sym (entries_of_bucket slots k s is l))
    ∙ set-get_or (by_slot slots) k []

-- a bucket with one more entry
pub one_more_entry : (slots : List Slot) (k : ℕ) (s new : Slot) (e : Entry) → k ≡ slot_of e.hash (length slots) → s ≡ get_or slots k s → k < length slots
    → new.entries ≡ s.entries ++ e ∷ [] → by_slot (set slots k new) ≡ with_entry (by_slot slots) e
one_more_entry slots k s new e at is l more =
    by_slot-set slots k new
    ∙ ap (λ (es : List Entry). set (by_slot slots) k es)
    (more ∙ ap (λ (es : List Entry). es ++ e ∷ []) (sym (entries_of_bucket slots k s is l)))
    ∙ ap (λ j. set (by_slot slots) j (entries_at (by_slot slots) j ++ e ∷ [])) (at ∙ ap (slot_of e.hash) (sym (length-by_slot slots)))

-- a slice of a whole vector is written back whole
pub whole : {X : Type 0} (n : ℕ) (new was : List X) → n ≡ length was → length new ≡ length was → take n (new ++ drop (length new) was) ≡ new
whole n new was all same = ap (λ m. take m (new ++ drop (length new) was)) (all ∙ sym same) ∙ take-append_seam new (drop (length new) was)

-- ---- each entry in turn

pub length-with_entry : (b : BySlot) (e : Entry) → length (with_entry b e) ≡ length b
length-with_entry b e = length-set b (slot_of e.hash (length b)) (entries_at b (slot_of e.hash (length b)) ++ e ∷ [])

pub length-with_each : (b : BySlot) (es : List Entry) → length (with_each b es) ≡ length b
length-with_each b [] = refl
length-with_each b (e ∷ es) = length-with_each (with_entry b e) es ∙ length-with_entry b e

pub with_each-push : (b : BySlot) (es : List Entry) (e : Entry) → with_each b (es ++ e ∷ []) ≡ with_entry (with_each b es) e
with_each-push b [] e = refl
with_each-push b (x ∷ es) e = with_each-push (with_entry b x) es e

pub chosen_yes : (slots k : ℕ) (e : Entry) (es : List Entry) → slot_of e.hash slots ≡ k → filter (stands_in slots k) (e ∷ es) ≡ e ∷ filter (stands_in slots k) es
chosen_yes slots k e es is = ap (λ b. cond b (e ∷ filter (stands_in slots k) es) (filter (stands_in slots k) es)) (eq-eqb (slot_of e.hash slots) k is)

pub chosen_no : (slots k : ℕ) (e : Entry) (es : List Entry) → (slot_of e.hash slots ≢ k) → filter (stands_in slots k) (e ∷ es) ≡ filter (stands_in slots k) es
chosen_no slots k e es not = ap (λ b. cond b (e ∷ filter (stands_in slots k) es) (filter (stands_in slots k) es)) (ne_eqb (slot_of e.hash slots) k not)

pub with_entry_at : (b : BySlot) (e : Entry) (k : ℕ) → k < length b → entries_at (with_entry b e) k ≡ entries_at b k ++ filter (stands_in (length b) k) (e ∷ [])
with_entry_at b e k l = ⊎_elim
    (λ (is : slot_of e.hash (length b) ≡ k).
    ap (λ j. entries_at (set b j (entries_at b j ++ e ∷ [])) k) is ∙ get_or-set_same b k (entries_at b k ++ e ∷ []) [] l
    ∙ ap (λ (es : List Entry). entries_at b k ++ es) (sym (chosen_yes (length b) k e [] is)))
    (λ (not : slot_of e.hash (length b) ≡ k → ⊥).
    get_or-set_other b (slot_of e.hash (length b)) k (entries_at b (slot_of e.hash (length b)) ++ e ∷ []) [] (λ (same : k ≡ slot_of e.hash (length b)). not (sym same))
    ∙ sym (append-nil (entries_at b k)) ∙ ap (λ (es : List Entry). entries_at b k ++ es) (sym (chosen_no (length b) k e [] not)))
    (cases_eq (slot_of e.hash (length b)) k)

pub with_each_at : (b : BySlot) (es : List Entry) (k : ℕ) → k < length b → entries_at (with_each b es) k ≡ entries_at b k ++ filter (stands_in (length b) k) es
with_each_at b [] k l = sym (append-nil (entries_at b k))
with_each_at b (e ∷ es) k l =
    let same = length-with_entry b e in
    with_each_at (with_entry b e) es k (subst (λ n. k < n) (sym same) l)
    ∙ ap (λ n. entries_at (with_entry b e) k ++ filter (stands_in n k) es) same
    ∙ ap (λ (xs : List Entry). xs ++ filter (stands_in (length b) k) es) (with_entry_at b e k l)
    ∙ append_assoc (entries_at b k) (filter (stands_in (length b) k) (e ∷ [])) (filter (stands_in (length b) k) es)
    ∙ ap (λ (xs : List Entry). entries_at b k ++ xs) (sym (filter-append (stands_in (length b) k) (e ∷ []) es))
