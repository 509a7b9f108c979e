-- Buckets that are split.
use Rattle.std.proofs.Common.{◌≡◌, ◌≤◌, ◌<◌, ◌≢◌, ◌⊎◌, inl, inr, ⊎_elim, ℕ, ◌+◌, ◌-◌, List, [], ◌++◌, length, filter, get_or, set, take, refl, sym, ap, ◌∙◌, subst, arith}
use Rattle.std.proofs.lemmas.Bool.{cases_eq, cases_lt, eqb-true, eq-eqb}
use Rattle.std.proofs.lemmas.List.{length-append, length-set, get_or_append_left, get_or-append_right, ext_get_or}
use Rattle.std.proofs.lemmas.List.FromFn.{length-map-range_with_len, get_or-map-range_with_len}
use Rattle.std.proofs.Math.Seq.{take-append_seam}
use Rattle.space_model.specs.Apart.{In}
use Rattle.space_model.specs.Slots.{slot_of}
use Rattle.space_model.proofs.Members.{in_filter, filter_passes}
use Rattle.space_model.proofs.Splits.{slot_below}
use Rattle.file_model.specs.declared.entry.Entry.{Entry}
use Rattle.slot_table.specs.BySlot.{Slot, BySlot, by_slot, entries_at, entries_in, stands_in, parted}
use Rattle.slot_table.specs.Turns.{part_at, parts, IsSplit}
use Rattle.slot_table.proofs.Fewer.{own_slot, fewer}
use Rattle.slot_table.proofs.Picked.{filter_all, picked_at}
use Rattle.slot_table.proofs.Tables.{entries_of_bucket, length-by_slot, entries_set_same, entries_set_other}

-- each entry stands in its slot
abbrev pub StandInOwn : BySlot → Type 0
StandInOwn b = (k : ℕ) (e : Entry) → In e (entries_at b k) → slot_of e.hash (length b) ≡ k

-- ---- before a bucket is split

pub split_none : (b : BySlot) (slots : ℕ) → 1 ≤ length b → length b ≤ slots → StandInOwn b → IsSplit b slots (length b) (b ++ parts b slots (slots - length b))
split_none b slots some more own = record {
  long = let l = length-map-range_with_len (part_at b slots) (length b) (slots - length b) in
      length-append b (parts b slots (slots - length b)) ∙ ap (λ n. length b + n) l;
  fresh = λ k behind below. get_or-append_right b (parts b slots (slots - length b)) (length b) k [] refl behind
      ∙ get_or-map-range_with_len (part_at b slots) (length b) (slots - length b) (k - length b) k [] (omega arith) (omega arith);
  own = λ k below. ap (λ (es : List Entry). filter (stands_in slots k) es) (get_or_append_left b (parts b slots (slots - length b)) [] k below);
  left = λ k e below a.
      let here : In e (entries_at b k) = subst (λ (es : List Entry). In e es) (get_or_append_left b (parts b slots (slots - length b)) [] k below) a in
      let is = own k e here in (
        is,
        ⊎_elim
            (λ (l : slot_of e.hash slots < length b). inl (sym (own_slot (slot_of e.hash slots) (length b) l) ∙ fewer e.hash (length b) slots some more ∙ is))
            (λ (l : length b ≤ slot_of e.hash slots). inr l) (cases_lt (slot_of e.hash slots) (length b)),
      );
}

-- ---- one more bucket is split

twice : (slots k : ℕ) (es : List Entry) → filter (stands_in slots k) (filter (stands_in slots k) es) ≡ filter (stands_in slots k) es
twice slots k es = filter_all (stands_in slots k) (filter (stands_in slots k) es) (λ e a. filter_passes (stands_in slots k) es e a)

abbrev Left : BySlot → ℕ → ℕ → ℕ → Entry → Type 0
Left b slots upto k e = (slot_of e.hash (length b) ≡ k) × ((slot_of e.hash slots ≡ k) ⊎ (upto ≤ slot_of e.hash slots))

left_here : (b : BySlot) (slots upto k : ℕ) (e : Entry) (es : List Entry) → ((x : Entry) → In x es → Left b slots upto k x) → In e (filter (stands_in slots k) es)
    → Left b slots (upto + 1) k e
left_here b slots upto k e es before a =
    ((before e (in_filter (stands_in slots k) es e a)).0, inl (eqb-true (slot_of e.hash slots) k (filter_passes (stands_in slots k) es e a)))

left_there : (b : BySlot) (slots slot k j : ℕ) (e : Entry) → 1 ≤ length b → length b ≤ slots → k ≡ slot_of slot (length b) → (j ≢ k) → Left b slots slot j e
    → Left b slots (slot + 1) j e
left_there b slots slot k j e some more at apart before = (
  before.0,
  ⊎_elim
      (λ (stays : slot_of e.hash slots ≡ j). inl stays)
      (λ (later : slot ≤ slot_of e.hash slots). ⊎_elim
      (λ (is : slot_of e.hash slots ≡ slot).
      let stood : slot_of e.hash (length b) ≡ k = sym (fewer e.hash (length b) slots some more) ∙ ap (λ t. slot_of t (length b)) is ∙ sym at in
      absurd (apart (sym before.0 ∙ stood)))
      (λ (not : slot_of e.hash slots ≡ slot → ⊥). inr (omega (arith, later, not)))
      (cases_eq (slot_of e.hash slots) slot)) before.1,
)

pub split_more : (now : List Slot) (b : BySlot) (slots slot k : ℕ) (s new : Slot) → 1 ≤ length b → length b ≤ slots → IsSplit b slots slot (by_slot now)
    → k ≡ slot_of slot (length b) → k < length b → s ≡ get_or now k s → new.entries ≡ filter (stands_in slots k) s.entries
    → IsSplit b slots (slot + 1) (by_slot (set now k new))
split_more now b slots slot k s new some more p at below is picks =
    let long : length now ≡ length b + (slots - length b) = sym (length-by_slot now) ∙ p.long in
    let within : k < length now = omega (arith, long, below) in
    let was : entries_at (by_slot now) k ≡ s.entries = entries_of_bucket now k s is within in
    let here : entries_at (by_slot (set now k new)) k ≡ filter (stands_in slots k) (entries_at (by_slot now) k) =
    entries_set_same now k new within ∙ picks ∙ ap (λ (es : List Entry). filter (stands_in slots k) es) (sym was) in
    record {
      long = length-by_slot (set now k new) ∙ length-set now k new ∙ long;
      fresh = λ j behind inside. entries_set_other now k j new (λ (same : j ≡ k). omega (arith, same, behind, below)) ∙ p.fresh j behind inside;
      own = λ j old. ⊎_elim
          (λ (same : j ≡ k). subst (λ i. filter (stands_in slots i) (entries_at (by_slot (set now k new)) i) ≡ filter (stands_in slots i) (entries_at b i)) (sym same)
          (ap (λ (es : List Entry). filter (stands_in slots k) es) here ∙ twice slots k (entries_at (by_slot now) k) ∙ p.own k below))
          (λ (apart : j ≡ k → ⊥). ap (λ (es : List Entry). filter (stands_in slots j) es) (entries_set_other now k j new apart) ∙ p.own j old)
          (cases_eq j k);
      left = λ j e old a. ⊎_elim
          (λ (same : j ≡ k). subst (λ i. Left b slots (slot + 1) i e) (sym same)
          (left_here b slots slot k e (entries_at (by_slot now) k) (λ x x_in. p.left k x below x_in)
          (subst (λ (es : List Entry). In e es) here (subst (λ i. In e (entries_at (by_slot (set now k new)) i)) same a))))
          (λ (apart : j ≡ k → ⊥). left_there b slots slot k j e some more at apart
          (p.left j e old (subst (λ (es : List Entry). In e es) (entries_set_other now k j new apart) a)))
          (cases_eq j k);
    }

-- ---- when all are split

split_at : (b new : BySlot) (slots k : ℕ) → 1 ≤ length b → length b ≤ slots → IsSplit b slots slots new → k < slots → entries_at new k ≡ part_at b slots k
split_at b new slots k some more p below = ⊎_elim
    (λ (old : k < length b).
    let all = filter_all (stands_in slots k) (entries_at new k) (λ e a.
    ⊎_elim
    (λ (stays : slot_of e.hash slots ≡ k). eq-eqb (slot_of e.hash slots) k stays)
    (λ (later : slots ≤ slot_of e.hash slots). let l = slot_below e.hash slots (omega (arith, some, more)) in absurd (omega (arith, l, later)))
    (p.left k e old a).1) in
    sym all ∙ p.own k old ∙ ap (λ j. filter (stands_in slots k) (entries_at b j)) (sym (own_slot k (length b) old)))
    (λ (behind : length b ≤ k). p.fresh k behind below)
    (cases_lt k (length b))

-- of all entries those whose slot it will be stand in the one slot that is split
picked_part : (b : BySlot) (slots k : ℕ) → 1 ≤ length b → length b ≤ slots → StandInOwn b
    → filter (stands_in slots k) (entries_in b) ≡ part_at b slots k
picked_part b slots k some more own = picked_at (stands_in slots k) b (slot_of k (length b)) (λ j e a passes.
    sym (own j e a) ∙ sym (fewer e.hash (length b) slots some more) ∙ ap (λ t. slot_of t (length b)) (eqb-true (slot_of e.hash slots) k passes))

parted_part : (b : BySlot) (slots k : ℕ) → 1 ≤ length b → length b ≤ slots → StandInOwn b → k < slots
    → entries_at (parted slots (entries_in b)) k ≡ part_at b slots k
parted_part b slots k some more own below =
    get_or-map-range_with_len (λ (slot : ℕ). filter (stands_in slots slot) (entries_in b)) 0 slots k k [] below (omega arith)
    ∙ picked_part b slots k some more own

-- a bucket stays where all its entries keep their slot
pub unsplit_at : (b : BySlot) (slots k : ℕ) → 1 ≤ length b → length b ≤ slots → StandInOwn b → k < length b
    → ((e : Entry) → In e (entries_at b k) → slot_of e.hash slots ≡ k) → entries_at (parted slots (entries_in b)) k ≡ entries_at b k
unsplit_at b slots k some more own below stays =
    parted_part b slots k some more own (omega (arith, below, more))
    ∙ ap (λ j. filter (stands_in slots k) (entries_at b j)) (own_slot k (length b) below)
    ∙ filter_all (stands_in slots k) (entries_at b k) (λ e a. eq-eqb (slot_of e.hash slots) k (stays e a))

pub split_all : (b new : BySlot) (slots : ℕ) → 1 ≤ length b → length b ≤ slots → StandInOwn b → IsSplit b slots slots new → new ≡ parted slots (entries_in b)
split_all b new slots some more own p =
    let count : length (parted slots (entries_in b)) ≡ slots = length-map-range_with_len (λ (slot : ℕ). filter (stands_in slots slot) (entries_in b)) 0 slots in
    let long = p.long in
    ext_get_or [] new (parted slots (entries_in b)) (omega (arith, count, long)) (λ k l.
    let below : k < slots = omega (arith, l, long) in
    split_at b new slots k some more p below ∙ sym (parted_part b slots k some more own below))

-- ---- from the first to the last

pub split_begun : (b now : BySlot) (slots old : ℕ) → length b ≡ old → 1 ≤ old → old ≤ slots → StandInOwn b → now ≡ b ++ parts b slots (slots - old)
    → IsSplit (take old now) slots old now
split_begun b now slots old long some more own is =
    let front : take old now ≡ b =
    ap (λ (xs : BySlot). take old xs) is ∙ ap (λ n. take n (b ++ parts b slots (slots - old))) (sym long) ∙ take-append_seam b (parts b slots (slots - old)) in
    let begun : IsSplit b slots (length b) (b ++ parts b slots (slots - length b)) =
    split_none b slots (subst (λ n. 1 ≤ n) (sym long) some) (subst (λ n. n ≤ slots) (sym long) more) own in
    let at_old : IsSplit b slots old (b ++ parts b slots (slots - old)) =
    subst (λ n. IsSplit b slots n (b ++ parts b slots (slots - n))) long begun in
    subst (λ (xs : BySlot). IsSplit xs slots old now) (sym front) (subst (λ (xs : BySlot). IsSplit b slots old xs) (sym is) at_old)

pub split_done : (b now new : BySlot) (slots old : ℕ) → length b ≡ old → 1 ≤ old → old ≤ slots → StandInOwn b → now ≡ b ++ parts b slots (slots - old)
    → IsSplit (take old now) slots slots new → new ≡ parted slots (entries_in b)
split_done b now new slots old long some more own is p =
    let front : take old now ≡ b =
    ap (λ (xs : BySlot). take old xs) is ∙ ap (λ n. take n (b ++ parts b slots (slots - old))) (sym long) ∙ take-append_seam b (parts b slots (slots - old)) in
    split_all b new slots (subst (λ n. 1 ≤ n) (sym long) some) (subst (λ n. n ≤ slots) (sym long) more) own
    (subst (λ (xs : BySlot). IsSplit xs slots slots new) front p)

pub length_begun : (b now : BySlot) (slots old : ℕ) → length b ≡ old → old ≤ slots → now ≡ b ++ parts b slots (slots - old) → length now ≡ slots
length_begun b now slots old long more is =
    let all = ap (λ (xs : BySlot). length xs) is ∙ length-append b (parts b slots (slots - old)) in
    let new = length-map-range_with_len (part_at b slots) (length b) (slots - old) in
    omega (arith, all, new, long, more)
