-- The number of entries and of objects after a call.
use Rattle.std.proofs.Common.{◌≡◌, ◌≢◌, ◌≤◌, ◌<◌, ⊎_elim, ℕ, zero, suc, ◌+◌, List, [], ◌∷◌, ◌++◌, length, map, filter, set, sum_by, refl, ap, ◌∙◌, arith}
use Rattle.std.specs.List.{range_with_len}
use Rattle.std.proofs.lemmas.Bool.{cases_eq}
use Rattle.std.proofs.lemmas.List.Sums.{sum_by-cons, sum_by-append}
use Rattle.space_model.specs.Slots.{slot_of}
use Rattle.file_model.specs.declared.entry.Entry.{Entry}
use Rattle.slot_table.specs.BySlot.{BySlot, entries_at, entries_in, stands_in, parted}
use Rattle.slot_table.proofs.Tables.{chosen_yes, chosen_no}

-- the length is a sum of ones
pub length_total : (es : List Entry) → length es ≡ sum_by (λ _. 1) es
length_total [] = refl
length_total (e ∷ es) = let rest = length_total es in let one = sum_by-cons {X = Entry} (λ _. 1) e es in omega (arith, rest, one)

module _ (weight : Entry → ℕ) where
  pub total_added : (b : BySlot) (k : ℕ) (e : Entry) → k < length b
      → sum_by weight (entries_in (set b k (entries_at b k ++ e ∷ []))) ≡ sum_by weight (entries_in b) + weight e
  total_added [] k e below = absurd (omega (arith, below))
  total_added (x ∷ xs) zero e below =
      let new = sum_by-append weight (x ++ e ∷ []) (entries_in xs) in
      let old = sum_by-append weight x (entries_in xs) in
      let last = sum_by-append weight x (e ∷ []) in
      let one = sum_by-cons weight e [] in
      omega (arith, new, old, last, one)
  total_added (x ∷ xs) (suc k) e below =
      let rest = total_added xs k e (omega (arith, below)) in
      let new = sum_by-append weight x (entries_in (set xs k (entries_at xs k ++ e ∷ []))) in
      let old = sum_by-append weight x (entries_in xs) in
      omega (arith, rest, new, old)

  abbrev part : ℕ → List Entry → ℕ → ℕ → ℕ
  part slots es a n = sum_by weight (entries_in (map (λ k. filter (stands_in slots k) es) (range_with_len a n)))

  part_more : (slots : ℕ) (es : List Entry) (a n : ℕ) → part slots es a (suc n) ≡ sum_by weight (filter (stands_in slots a) es) + part slots es (a + 1) n
  part_more slots es a n =
      sum_by-append weight (filter (stands_in slots a) es) (entries_in (map (λ k. filter (stands_in slots k) es) (range_with_len (a + 1) n)))

  part_none : (slots a n : ℕ) → part slots [] a n ≡ 0
  part_none slots a zero = refl
  part_none slots a (suc n) = let rest = part_none slots (a + 1) n in let more = part_more slots [] a n in omega (arith, rest, more)

  filtered_no : (slots a : ℕ) (e : Entry) (es : List Entry) → (slot_of e.hash slots ≢ a)
      → sum_by weight (filter (stands_in slots a) (e ∷ es)) ≡ sum_by weight (filter (stands_in slots a) es)
  filtered_no slots a e es apart = ap (λ (xs : List Entry). sum_by weight xs) (chosen_no slots a e es apart)

  filtered_yes : (slots a : ℕ) (e : Entry) (es : List Entry) → slot_of e.hash slots ≡ a
      → sum_by weight (filter (stands_in slots a) (e ∷ es)) ≡ weight e + sum_by weight (filter (stands_in slots a) es)
  filtered_yes slots a e es is =
      ap (λ (xs : List Entry). sum_by weight xs) (chosen_yes slots a e es is) ∙ sum_by-cons weight e (filter (stands_in slots a) es)

  -- an entry of an earlier slot
  part_earlier : (slots : ℕ) (e : Entry) (es : List Entry) (a n : ℕ) → slot_of e.hash slots < a → part slots (e ∷ es) a n ≡ part slots es a n
  part_earlier slots e es a zero l = refl
  part_earlier slots e es a (suc n) l =
      let rest = part_earlier slots e es (a + 1) n (omega (arith, l)) in
      let new = part_more slots (e ∷ es) a n in
      let old = part_more slots es a n in
      let first = filtered_no slots a e es (λ (is : slot_of e.hash slots ≡ a). omega (arith, is, l)) in
      omega (arith, rest, new, old, first)

  -- an entry of one of these slots
  part_within : (slots : ℕ) (e : Entry) (es : List Entry) (a n : ℕ) → a ≤ slot_of e.hash slots → slot_of e.hash slots < a + n
      → part slots (e ∷ es) a n ≡ weight e + part slots es a n
  part_within slots e es a zero from below = absurd (omega (arith, from, below))
  part_within slots e es a (suc n) from below =
      let new = part_more slots (e ∷ es) a n in
      let old = part_more slots es a n in
      ⊎_elim
      (λ (is : slot_of e.hash slots ≡ a).
      let first = filtered_yes slots a e es is in
      let rest = part_earlier slots e es (a + 1) n (omega (arith, is)) in
      omega (arith, first, rest, new, old))
      (λ (apart : slot_of e.hash slots ≡ a → ⊥).
      let first = filtered_no slots a e es apart in
      let rest = part_within slots e es (a + 1) n (omega (arith, from, apart)) (omega (arith, below)) in
      omega (arith, first, rest, new, old))
      (cases_eq (slot_of e.hash slots) a)

  pub total_parted : (slots : ℕ) (es : List Entry) → ((e : Entry) → slot_of e.hash slots < slots) → sum_by weight (entries_in (parted slots es)) ≡ sum_by weight es
  total_parted slots [] below = part_none slots 0 slots
  total_parted slots (e ∷ es) below =
      let l = below e in
      let more = part_within slots e es 0 slots (omega arith) (omega (arith, l)) in
      let rest = total_parted slots es below in
      let sum = sum_by-cons weight e es in
      omega (arith, more, rest, sum)
