-- The entry of a hash and a unit, and what is left without it.
use Rattle.std.proofs.Common.{◌≡◌, ◌≢◌, ◌<◌, inl, inr, ⊎_elim, ℕ, ◌+◌, Bool, true, false, cond, List, [], ◌∷◌, length, filter, find, get_or, set, sum_by, Option, Some, None, refl, sym, ap, ◌∙◌, subst, arith}
use Rattle.std.specs.Prelude.{nat_eq}
use Rattle.std.proofs.lemmas.Bool.{cases_eq, eqb-true, eq-eqb, ne_eqb, and_parts, and_from, and_left, and_right, not_from_true, not_from_false, not-true}
use Rattle.std.proofs.lemmas.List.{get_or-map, get_or-set_same, get_or-set_other, length-map, length-set, set-get_or, ext_get_or}
use Rattle.std.proofs.lemmas.List.Sums.{sum_by-cons}
use Rattle.space_model.specs.Apart.{In, Pairs}
use Rattle.space_model.specs.Slots.{slot_of}
use Rattle.file_model.specs.declared.entry.Entry.{Entry}
use Rattle.slot_table.specs.BySlot.{Slot, BySlot, by_slot, entries_at, entries_in, is_block, is_other, without, HasOtherUnit}
use Rattle.slot_table.proofs.Picked.{filter_all, stands_at, in_entries}
use Rattle.slot_table.proofs.Tables.{IsSlotAmong, entries_of_bucket, length-by_slot, by_slot-set}

-- ---- what is found

found_first : (test : Entry → Bool) (b : Bool) (x e : Entry) (xs : List Entry) (rest : Option Entry) → test x ≡ b → cond b (Some x) rest ≡ Some e
    → (rest ≡ Some e → In e xs × (test e ≡ true)) → In e (x ∷ xs) × (test e ≡ true)
found_first test true x e xs rest is found go = let same : x ≡ e = cc found in (inl same, ap test (sym same) ∙ is)
found_first test false x e xs rest is found go = let later = go found in (inr later.0, later.1)

pub find_some : (test : Entry → Bool) (xs : List Entry) (e : Entry) → find test xs ≡ Some e → In e xs × (test e ≡ true)
find_some test [] e found = absurd (cc found)
find_some test (x ∷ xs) e found = found_first test (test x) x e xs (find test xs) refl found (λ later. find_some test xs e later)

lost_first : (b : Bool) (x : Entry) (rest : Option Entry) → cond b (Some x) rest ≡ None → (b ≡ false) × (rest ≡ None)
lost_first true x rest lost = absurd (cc lost)
lost_first false x rest lost = (refl, lost)

pub find_none : (test : Entry → Bool) (xs : List Entry) (e : Entry) → find test xs ≡ None → In e xs → test e ≡ false
find_none test [] e lost a = absurd a
find_none test (x ∷ xs) e lost a =
    let parts = lost_first (test x) x (find test xs) lost in
    ⊎_elim (λ (here : x ≡ e). ap test (sym here) ∙ parts.0) (λ later. find_none test xs e parts.1 later) a

pub block_is : (hash unit : ℕ) (e : Entry) → is_block hash unit e ≡ true → (e.hash ≡ hash) × (e.unit ≡ unit)
block_is hash unit e is =
    let parts = and_parts (nat_eq e.hash hash) (nat_eq e.unit unit) is in
    (eqb-true e.hash hash parts.0, eqb-true e.unit unit parts.1)

pub is_the_block : (hash unit : ℕ) (e : Entry) → e.hash ≡ hash → e.unit ≡ unit → is_block hash unit e ≡ true
is_the_block hash unit e same_hash same_unit =
    and_from (nat_eq e.hash hash) (nat_eq e.unit unit) (eq-eqb e.hash hash same_hash) (eq-eqb e.unit unit same_unit)

pub other_hash : (hash unit : ℕ) (e : Entry) → (e.hash ≡ hash → ⊥) → is_other hash unit e ≡ true
other_hash hash unit e apart =
    not_from_false (is_block hash unit e) (and_left (nat_eq e.hash hash) (nat_eq e.unit unit) (ne_eqb e.hash hash apart))

pub other_unit : (hash unit : ℕ) (e : Entry) → (e.unit ≡ unit → ⊥) → is_other hash unit e ≡ true
other_unit hash unit e apart =
    not_from_false (is_block hash unit e) (and_right (nat_eq e.hash hash) (nat_eq e.unit unit) (ne_eqb e.unit unit apart))

pub other_is : (hash unit : ℕ) (e : Entry) → is_other hash unit e ≡ true → e.hash ≡ hash → e.unit ≢ unit
other_is hash unit e other same_hash same_unit =
    let block = is_the_block hash unit e same_hash same_unit in
    let apart = not-true (is_block hash unit e) other in
    absurd (cc (block, apart))

-- ---- one slot alone changes

pub without_one : (b : BySlot) (hash unit : ℕ) (es : List Entry) → ((k : ℕ) (e : Entry) → In e (entries_at b k) → slot_of e.hash (length b) ≡ k)
    → es ≡ filter (is_other hash unit) (entries_at b (slot_of hash (length b))) → slot_of hash (length b) < length b
    → set b (slot_of hash (length b)) es ≡ without b hash unit
without_one b hash unit es own picks below =
    let s = slot_of hash (length b) in
    ext_get_or [] (set b s es) (without b hash unit) (length-set b s es ∙ sym (length-map b (filter (is_other hash unit)))) (λ k l.
    let within : k < length b = subst (λ n. k < n) (length-set b s es) l in
    ⊎_elim
    (λ (here : k ≡ s). subst (λ j. get_or (set b s es) j [] ≡ get_or (without b hash unit) j []) (sym here)
    (get_or-set_same b s es [] below ∙ picks ∙ sym (get_or-map (filter (is_other hash unit)) b s [] [] below)))
    (λ (apart : k ≡ s → ⊥).
    get_or-set_other b s k es [] apart
    ∙ sym (filter_all (is_other hash unit) (entries_at b k) (λ e a.
    other_hash hash unit e (λ (same : e.hash ≡ hash). apart (sym (own k e a) ∙ ap (λ h. slot_of h (length b)) same))))
    ∙ sym (get_or-map (filter (is_other hash unit)) b k [] [] within))
    (cases_eq k s))

-- nothing changes where it is not there
pub without_none : (b : BySlot) (hash unit : ℕ) → ((k : ℕ) (e : Entry) → In e (entries_at b k) → slot_of e.hash (length b) ≡ k)
    → find (is_block hash unit) (entries_at b (slot_of hash (length b))) ≡ None → slot_of hash (length b) < length b → b ≡ without b hash unit
without_none b hash unit own lost below =
    let s = slot_of hash (length b) in
    sym (set-get_or b s [])
    ∙ without_one b hash unit (entries_at b s) own
    (sym (filter_all (is_other hash unit) (entries_at b s) (λ e a. not_from_false (is_block hash unit e) (find_none (is_block hash unit) (entries_at b s) e lost a)))) below

-- ---- the total without one

kept_one : (hash unit : ℕ) (e : Entry) (es : List Entry) → is_other hash unit e ≡ true → filter (is_other hash unit) (e ∷ es) ≡ e ∷ filter (is_other hash unit) es
kept_one hash unit e es other = ap (λ b. cond b (e ∷ filter (is_other hash unit) es) (filter (is_other hash unit) es)) other

dropped_one : (hash unit : ℕ) (e : Entry) (es : List Entry) → is_block hash unit e ≡ true → filter (is_other hash unit) (e ∷ es) ≡ filter (is_other hash unit) es
dropped_one hash unit e es is =
    ap (λ b. cond b (e ∷ filter (is_other hash unit) es) (filter (is_other hash unit) es)) (not_from_true (is_block hash unit e) is)

module _ (weight : Entry → ℕ) where
  pub total_removed : (hash unit : ℕ) (es : List Entry) (e : Entry) → Pairs HasOtherUnit es → In e es → e.hash ≡ hash → e.unit ≡ unit
      → sum_by weight (filter (is_other hash unit) es) + weight e ≡ sum_by weight es
  total_removed hash unit [] e apart a same_hash same_unit = absurd a
  total_removed hash unit (x ∷ xs) e apart a same_hash same_unit =
      let all = sum_by-cons weight x xs in
      ⊎_elim
      (λ (here : x ≡ e).
      let drops : filter (is_other hash unit) (x ∷ xs) ≡ xs =
      dropped_one hash unit x xs (is_the_block hash unit x (ap (λ (y : Entry). y.hash) here ∙ same_hash) (ap (λ (y : Entry). y.unit) here ∙ same_unit))
      ∙ filter_all (is_other hash unit) xs (λ y y_in. other_unit hash unit y (λ (same : y.unit ≡ unit).
      apart.0 y y_in (ap (λ (z : Entry). z.unit) here ∙ same_unit ∙ sym same))) in
      let total : sum_by weight (filter (is_other hash unit) (x ∷ xs)) ≡ sum_by weight xs = ap (λ (ys : List Entry). sum_by weight ys) drops in
      let own : weight x ≡ weight e = ap weight here in
      omega (arith, all, total, own))
      (λ (later : In e xs).
      let keeps : filter (is_other hash unit) (x ∷ xs) ≡ x ∷ filter (is_other hash unit) xs =
      kept_one hash unit x xs (other_unit hash unit x (λ (same : x.unit ≡ unit). apart.0 e later (same ∙ sym same_unit))) in
      let total : sum_by weight (filter (is_other hash unit) (x ∷ xs)) ≡ weight x + sum_by weight (filter (is_other hash unit) xs) =
      ap (λ (ys : List Entry). sum_by weight ys) keeps ∙ sum_by-cons weight x (filter (is_other hash unit) xs) in
      let rest = total_removed hash unit xs e apart.1 later same_hash same_unit in
      omega (arith, all, total, rest)) a

-- ---- in the bucket of the hash

in_bucket : (slots : List Slot) (k : ℕ) (bucket : Slot) (es : List Entry) → bucket ≡ get_or slots k bucket → k < length slots → es ≡ bucket.entries
    → es ≡ entries_at (by_slot slots) k
in_bucket slots k bucket es is below same = same ∙ sym (entries_of_bucket slots k bucket is below)

pub found_in : (slots : List Slot) (k : ℕ) (bucket : Slot) (es : List Entry) (hash unit : ℕ) (e : Entry) → IsSlotAmong slots hash k
    → bucket ≡ get_or slots k bucket → es ≡ bucket.entries → Some e ≡ find (is_block hash unit) es
    → In e (entries_in (by_slot slots)) × (e.hash ≡ hash) × (e.unit ≡ unit)
found_in slots k bucket es hash unit e slot is same found =
    let at = in_bucket slots k bucket es is slot.below same in
    let r = find_some (is_block hash unit) es e (sym found) in
    let parts = block_is hash unit e r.1 in
    (in_entries (by_slot slots) k e (subst (λ (xs : List Entry). In e xs) at r.0), parts.0, parts.1)

among_lists : (slots : List Slot) (hash k : ℕ) → IsSlotAmong slots hash k → k ≡ slot_of hash (length (by_slot slots))
among_lists slots hash k slot = slot.at ∙ ap (slot_of hash) (sym (length-by_slot slots))

lost_in : (slots : List Slot) (k : ℕ) (bucket : Slot) (es : List Entry) (hash unit : ℕ) → IsSlotAmong slots hash k
    → bucket ≡ get_or slots k bucket → es ≡ bucket.entries → None ≡ find (is_block hash unit) es
    → find (is_block hash unit) (entries_at (by_slot slots) (slot_of hash (length (by_slot slots)))) ≡ None
lost_in slots k bucket es hash unit slot is same lost =
    subst (λ j. find (is_block hash unit) (entries_at (by_slot slots) j) ≡ None) (among_lists slots hash k slot)
    (ap (λ (xs : List Entry). find (is_block hash unit) xs) (sym (in_bucket slots k bucket es is slot.below same)) ∙ sym lost)

abbrev StandInOwn : BySlot → Type 0
StandInOwn b = (k : ℕ) (e : Entry) → In e (entries_at b k) → slot_of e.hash (length b) ≡ k

absent_from : (b : BySlot) (hash unit : ℕ) → StandInOwn b → find (is_block hash unit) (entries_at b (slot_of hash (length b))) ≡ None
    → (e : Entry) → In e (entries_in b) → e.hash ≡ hash → e.unit ≢ unit
absent_from b hash unit own lost e a same_hash same_unit =
    let s = stands_at b e a in
    let at : s.slot ≡ slot_of hash (length b) = sym (own s.slot e s.there) ∙ ap (λ h. slot_of h (length b)) same_hash in
    let never = find_none (is_block hash unit) (entries_at b (slot_of hash (length b))) e lost (subst (λ k. In e (entries_at b k)) at s.there) in
    let block = is_the_block hash unit e same_hash same_unit in
    absurd (cc (never, block))

-- where the bucket lacks it, it is not there, and nothing changes without it
pub absent_in : (slots : List Slot) (k : ℕ) (bucket : Slot) (es : List Entry) (hash unit : ℕ) → StandInOwn (by_slot slots) → IsSlotAmong slots hash k
    → bucket ≡ get_or slots k bucket → es ≡ bucket.entries → None ≡ find (is_block hash unit) es
    → (e : Entry) → In e (entries_in (by_slot slots)) → e.hash ≡ hash → e.unit ≢ unit
absent_in slots k bucket es hash unit own slot is same lost = absent_from (by_slot slots) hash unit own (lost_in slots k bucket es hash unit slot is same lost)

pub unchanged_in : (slots : List Slot) (k : ℕ) (bucket : Slot) (es : List Entry) (hash unit : ℕ) → StandInOwn (by_slot slots) → IsSlotAmong slots hash k
    → bucket ≡ get_or slots k bucket → es ≡ bucket.entries → None ≡ find (is_block hash unit) es → by_slot slots ≡ without (by_slot slots) hash unit
unchanged_in slots k bucket es hash unit own slot is same lost =
    let long = length-by_slot slots in
    let at = among_lists slots hash k slot in
    without_none (by_slot slots) hash unit own (lost_in slots k bucket es hash unit slot is same lost) (omega (arith, at, long, slot.below))

-- the bucket of the hash without it
pub removed_from : (slots : List Slot) (k : ℕ) (bucket new : Slot) (hash unit : ℕ) → StandInOwn (by_slot slots) → IsSlotAmong slots hash k
    → bucket ≡ get_or slots k bucket → new.entries ≡ filter (is_other hash unit) bucket.entries → by_slot (set slots k new) ≡ without (by_slot slots) hash unit
removed_from slots k bucket new hash unit own slot is picks =
    let long = length-by_slot slots in
    let here = among_lists slots hash k slot in
    by_slot-set slots k new ∙ ap (λ j. set (by_slot slots) j new.entries) here
    ∙ without_one (by_slot slots) hash unit new.entries own
    (picks ∙ ap (λ (xs : List Entry). filter (is_other hash unit) xs) (sym (entries_of_bucket slots k bucket is slot.below))
    ∙ ap (λ j. filter (is_other hash unit) (entries_at (by_slot slots) j)) here)
    (omega (arith, here, long, slot.below))
