-- One turn of each loop over the slots.
use Rattle.std.proofs.Common.{◌≡◌, ◌≤◌, ◌<◌, ◌≢◌, ⊎_elim, ℕ, suc, ◌+◌, ◌-◌, List, [], ◌∷◌, ◌++◌, length, filter, get_or, set, take, refl, sym, ap, ◌∙◌, subst, arith, append_assoc}
use Rattle.std.proofs.lemmas.Bool.{cases_eq}
use Rattle.std.proofs.lemmas.List.{take_more, take-take, length-take-le, length-append, map-append, length-set, get_or_append_left, ext_get_or}
use Rattle.std.proofs.Math.Seq.{take-append_seam}
use Rattle.std.proofs.lemmas.List.Elements.{filter-append}
use Rattle.std.proofs.lemmas.List.FromFn.{map-range_with_len_more}
use Rattle.space_model.specs.Slots.{slot_of}
use Rattle.space_model.proofs.Splits.{slot_below}
use Rattle.file_model.specs.declared.entry.Entry.{Entry}
use Rattle.slot_table.specs.BySlot.{Slot, BySlot, by_slot, spare_at, entries_at, stands_in, with_entry, HasRoomFor}
use Rattle.slot_table.specs.Turns.{with_each, IsPopped, part_at, parts}
use Rattle.slot_table.proofs.Tables.{entries_of_bucket, spare_of_bucket, length-by_slot, entries_set_same, entries_set_other, spare_set_same, spare_set_other, one_more_entry, with_each-push, with_each_at, chosen_yes, chosen_no}

-- one more entry is pushed
pub pushed_more : (old now : List Slot) (es : List Entry) (place k : ℕ) (s new : Slot) (d : Entry) → by_slot now ≡ with_each (by_slot old) (take place es)
    → length now ≡ length old → place < length es → k ≡ slot_of (get_or es place d).hash (length old) → s ≡ get_or now k s → k < length old
    → new.entries ≡ (get_or now k s).entries ++ get_or es place d ∷ [] → by_slot (set now k new) ≡ with_each (by_slot old) (take (place + 1) es)
pushed_more old now es place k s new d so long within at is below more =
    one_more_entry now k s new (get_or es place d) (at ∙ ap (slot_of (get_or es place d).hash) (sym long)) is (omega (arith, below, long))
    (more ∙ ap (λ (x : Slot). x.entries ++ get_or es place d ∷ []) (sym is))
    ∙ ap (λ (b : BySlot). with_entry b (get_or es place d)) so
    ∙ sym (with_each-push (by_slot old) (take place es) (get_or es place d))
    ∙ ap (λ (xs : List Entry). with_each (by_slot old) xs) (sym (take_more es place d within))

-- ---- one more entry is popped

counted_more : (slots j : ℕ) (es : List Entry) (e : Entry) → slot_of e.hash slots ≡ j
    → length (filter (stands_in slots j) (es ++ e ∷ [])) ≡ length (filter (stands_in slots j) es) + 1
counted_more slots j es e is =
    ap (λ (xs : List Entry). length xs) (filter-append (stands_in slots j) es (e ∷ []) ∙ ap (λ (xs : List Entry). filter (stands_in slots j) es ++ xs) (chosen_yes slots j e [] is))
    ∙ length-append (filter (stands_in slots j) es) (e ∷ [])

counted_same : (slots j : ℕ) (es : List Entry) (e : Entry) → (slot_of e.hash slots ≢ j)
    → length (filter (stands_in slots j) (es ++ e ∷ [])) ≡ length (filter (stands_in slots j) es)
counted_same slots j es e not =
    let one : length (filter (stands_in slots j) (e ∷ [])) ≡ 0 = ap (λ (xs : List Entry). length xs) (chosen_no slots j e [] not) in
    ap (λ (xs : List Entry). length xs) (filter-append (stands_in slots j) es (e ∷ []))
    ∙ length-append (filter (stands_in slots j) es) (filter (stands_in slots j) (e ∷ [])) ∙ omega (arith, one)

one_less : (n : ℕ) (xs : List Entry) → take (length (take (length xs - n) xs) - 1) (take (length xs - n) xs) ≡ take (length xs - (n + 1)) xs
one_less n xs =
    let long : length (take (length xs - n) xs) ≡ length xs - n = length-take-le (length xs - n) xs (omega arith) in
    let less : length (take (length xs - n) xs) - 1 ≡ length xs - (n + 1) = omega (arith, long) in
    ap (λ m. take m (take (length xs - n) xs)) less ∙ take-take (length xs - (n + 1)) (length xs - n) xs (omega arith)

abbrev Popped : List Slot → BySlot → List Entry → ℕ → Type 0
Popped old new es j = entries_at new j
    ≡ take (length (entries_at (by_slot old) j) - length (filter (stands_in (length old) j) es)) (entries_at (by_slot old) j)

popped_here : (old now : List Slot) (es : List Entry) (e : Entry) (k : ℕ) (s new : Slot) → IsPopped old now es → k ≡ slot_of e.hash (length old)
    → s ≡ get_or now k s → k < length old → new.entries ≡ take (length s.entries - 1) s.entries → Popped old (by_slot (set now k new)) (es ++ e ∷ []) k
popped_here old now es e k s new p at is below front =
    let long = p.long in
    let within : k < length now = omega (arith, below, long) in
    let was : s.entries ≡ take (length (entries_at (by_slot old) k) - length (filter (stands_in (length old) k) es)) (entries_at (by_slot old) k) =
    sym (entries_of_bucket now k s is within) ∙ p.entries k in
    entries_set_same now k new within ∙ front ∙ ap (λ (xs : List Entry). take (length xs - 1) xs) was
    ∙ one_less (length (filter (stands_in (length old) k) es)) (entries_at (by_slot old) k)
    ∙ ap (λ n. take (length (entries_at (by_slot old) k) - n) (entries_at (by_slot old) k)) (sym (counted_more (length old) k es e (sym at)))

popped_there : (old now : List Slot) (es : List Entry) (e : Entry) (k j : ℕ) (new : Slot) → IsPopped old now es → k ≡ slot_of e.hash (length old)
    → (j ≢ k) → Popped old (by_slot (set now k new)) (es ++ e ∷ []) j
popped_there old now es e k j new p at apart =
    entries_set_other now k j new apart ∙ p.entries j
    ∙ ap (λ n. take (length (entries_at (by_slot old) j) - n) (entries_at (by_slot old) j))
    (sym (counted_same (length old) j es e (λ (is : slot_of e.hash (length old) ≡ j). apart (sym is ∙ sym at))))

abbrev KeepsRoom : List Slot → List Slot → ℕ → Type 0
KeepsRoom old new j = spare_at new j + length (entries_at (by_slot new) j) ≡ spare_at old j + length (entries_at (by_slot old) j)

room_here : (old now : List Slot) (k : ℕ) (s new : Slot) → length now ≡ length old → KeepsRoom old now k → s ≡ get_or now k s → k < length old
    → new.spare + length new.entries ≡ s.spare + length s.entries → KeepsRoom old (set now k new) k
room_here old now k s new long before is below same =
    let within : k < length now = omega (arith, below, long) in
    let es : length (entries_at (by_slot (set now k new)) k) ≡ length new.entries = ap (λ (xs : List Entry). length xs) (entries_set_same now k new within) in
    let n = spare_set_same now k new within in
    let fs : length (entries_at (by_slot now) k) ≡ length s.entries = ap (λ (xs : List Entry). length xs) (entries_of_bucket now k s is within) in
    let m = spare_of_bucket now k s is within in
    omega (arith, es, n, fs, m, same, before)

room_there : (old now : List Slot) (k j : ℕ) (new : Slot) → KeepsRoom old now j → (j ≢ k) → KeepsRoom old (set now k new) j
room_there old now k j new before apart =
    let es : length (entries_at (by_slot (set now k new)) j) ≡ length (entries_at (by_slot now) j) =
    ap (λ (xs : List Entry). length xs) (entries_set_other now k j new apart) in
    let n = spare_set_other now k j new apart in
    omega (arith, es, n, before)

popped_one : (old now : List Slot) (es : List Entry) (e : Entry) (k : ℕ) (s new : Slot) → IsPopped old now es → k ≡ slot_of e.hash (length old)
    → s ≡ get_or now k s → k < length old → new.entries ≡ take (length s.entries - 1) s.entries
    → new.spare + length new.entries ≡ s.spare + length s.entries → IsPopped old (set now k new) (es ++ e ∷ [])
popped_one old now es e k s new p at is below front room = record {
  long = length-set now k new ∙ p.long;
  entries = λ j. ⊎_elim
      (λ (same : j ≡ k). subst (λ i. Popped old (by_slot (set now k new)) (es ++ e ∷ []) i) (sym same) (popped_here old now es e k s new p at is below front))
      (λ (apart : j ≡ k → ⊥). popped_there old now es e k j new p at apart) (cases_eq j k);
  room = λ j within. ⊎_elim
      (λ (same : j ≡ k). subst (λ i. KeepsRoom old (set now k new) i) (sym same) (room_here old now k s new p.long (p.room k below) is below room))
      (λ (apart : j ≡ k → ⊥). room_there old now k j new (p.room j within) apart) (cases_eq j k);
}

pub popped_more : (old now : List Slot) (es : List Entry) (place k : ℕ) (s new : Slot) (d : Entry) → IsPopped old now (take place es)
    → place < length es → k ≡ slot_of (get_or es place d).hash (length old) → s ≡ get_or now k s → k < length old
    → new.entries ≡ take (length s.entries - 1) s.entries → new.spare + length new.entries ≡ s.spare + length s.entries
    → IsPopped old (set now k new) (take (place + 1) es)
popped_more old now es place k s new d p within at is below front room =
    subst (λ (xs : List Entry). IsPopped old (set now k new) xs) (sym (take_more es place d within))
    (popped_one old now (take place es) (get_or es place d) k s new p at is below front room)

-- ---- room that was made

front_of : (xs ys : List Entry) → take (length (xs ++ ys) - length ys) (xs ++ ys) ≡ xs
front_of xs ys =
    let sum = length-append xs ys in
    let front : length (xs ++ ys) - length ys ≡ length xs = omega (arith, sum) in
    ap (λ n. take n (xs ++ ys)) front ∙ take-append_seam xs ys

pub room_made : (old mid new : List Slot) (es : List Entry) → by_slot mid ≡ with_each (by_slot old) es → length mid ≡ length old → IsPopped mid new es
    → by_slot new ≡ by_slot old
room_made old mid new es pushed same p =
    let long : length new ≡ length old = p.long ∙ same in
    ext_get_or [] (by_slot new) (by_slot old) (length-by_slot new ∙ long ∙ sym (length-by_slot old)) (λ k l.
    let below : k < length (by_slot old) = subst (λ n. k < n) (length-by_slot new ∙ long ∙ sym (length-by_slot old)) l in
    let full : entries_at (by_slot mid) k ≡ entries_at (by_slot old) k ++ filter (stands_in (length mid) k) es =
    ap (λ (b : BySlot). entries_at b k) pushed ∙ with_each_at (by_slot old) es k below
    ∙ ap (λ n. entries_at (by_slot old) k ++ filter (stands_in n k) es) (length-by_slot old ∙ sym same) in
    p.entries k
    ∙ ap (λ (xs : List Entry). take (length xs - length (filter (stands_in (length mid) k) es)) xs) full
    ∙ front_of (entries_at (by_slot old) k) (filter (stands_in (length mid) k) es))

room_is : (old mid new : List Slot) (es : List Entry) (k : ℕ) → by_slot mid ≡ with_each (by_slot old) es → length mid ≡ length old → IsPopped mid new es
    → k < length old → length (filter (stands_in (length old) k) es) ≤ spare_at new k
room_is old mid new es k pushed same p below =
    let within : k < length (by_slot old) = subst (λ n. k < n) (sym (length-by_slot old)) below in
    let full : length (entries_at (by_slot mid) k) ≡ length (entries_at (by_slot old) k ++ filter (stands_in (length old) k) es) =
    ap (λ (b : BySlot). length (entries_at b k)) pushed ∙ ap (λ (xs : List Entry). length xs) (with_each_at (by_slot old) es k within)
    ∙ ap (λ n. length (entries_at (by_slot old) k ++ filter (stands_in n k) es)) (length-by_slot old) in
    let sum = length-append (entries_at (by_slot old) k) (filter (stands_in (length old) k) es) in
    let back : length (entries_at (by_slot new) k) ≡ length (entries_at (by_slot old) k) =
    ap (λ (b : BySlot). length (entries_at b k)) (room_made old mid new es pushed same p) in
    let kept = p.room k (omega (arith, below, same)) in
    omega (arith, full, sum, back, kept)

pub has_room : (old mid new : List Slot) (es : List Entry) → by_slot mid ≡ with_each (by_slot old) es → length mid ≡ length old → IsPopped mid new es
    → HasRoomFor new es
has_room old mid new es pushed same p k below =
    let long : length new ≡ length old = p.long ∙ same in
    subst (λ n. length (filter (stands_in n k) es) ≤ spare_at new k) (sym long) (room_is old mid new es k pushed same p (omega (arith, below, long)))

pub room_first : (slots : List Slot) (e : Entry) (es : List Entry) → 1 ≤ length slots → HasRoomFor slots (e ∷ es)
    → 1 ≤ spare_at slots (slot_of e.hash (length slots))
room_first slots e es some room =
    let k = slot_of e.hash (length slots) in
    let has = room (slot_of e.hash (length slots)) (slot_below e.hash (length slots) some) in
    let one : length (filter (stands_in (length slots) (slot_of e.hash (length slots))) (e ∷ es))
    ≡ suc (length (filter (stands_in (length slots) (slot_of e.hash (length slots))) es)) =
    ap (λ (xs : List Entry). length xs) (chosen_yes (length slots) (slot_of e.hash (length slots)) e es refl) in
    omega (arith, has, one)

pub room_more : (old new : List Slot) (es : List Entry) → length new ≡ length old → HasRoomFor old es → ((k : ℕ) → spare_at old k ≤ spare_at new k)
    → HasRoomFor new es
room_more old new es same room more k below =
    let has = room k (omega (arith, below, same)) in
    let stays = more k in
    subst (λ n. length (filter (stands_in n k) es) ≤ spare_at new k) (sym same) (omega (arith, has, stays))

room_at : (old new : List Slot) (e : Entry) (es : List Entry) (k : ℕ) → k < length old → HasRoomFor old (e ∷ es)
    → spare_at old (slot_of e.hash (length old)) ≤ spare_at new (slot_of e.hash (length old)) + 1
    → ((j : ℕ) → j ≢ slot_of e.hash (length old) → spare_at new j ≡ spare_at old j) → length (filter (stands_in (length old) k) es) ≤ spare_at new k
room_at old new e es k below room falls others =
    let has = room k below in
    ⊎_elim
    (λ (is : slot_of e.hash (length old) ≡ k).
    let one : length (filter (stands_in (length old) k) (e ∷ es)) ≡ suc (length (filter (stands_in (length old) k) es)) =
    ap (λ (xs : List Entry). length xs) (chosen_yes (length old) k e es is) in
    let less : spare_at old k ≤ spare_at new k + 1 = subst (λ j. spare_at old j ≤ spare_at new j + 1) is falls in
    omega (arith, has, one, less))
    (λ (not : slot_of e.hash (length old) ≡ k → ⊥).
    let none : length (filter (stands_in (length old) k) (e ∷ es)) ≡ length (filter (stands_in (length old) k) es) =
    ap (λ (xs : List Entry). length xs) (chosen_no (length old) k e es not) in
    let same = others k (λ (is : k ≡ slot_of e.hash (length old)). not (sym is)) in
    omega (arith, has, none, same))
    (cases_eq (slot_of e.hash (length old)) k)

pub room_rest : (old new : List Slot) (e : Entry) (es : List Entry) → length new ≡ length old → HasRoomFor old (e ∷ es)
    → spare_at old (slot_of e.hash (length old)) ≤ spare_at new (slot_of e.hash (length old)) + 1
    → ((j : ℕ) → j ≢ slot_of e.hash (length old) → spare_at new j ≡ spare_at old j) → HasRoomFor new es
room_rest old new e es same room falls others k below =
    subst (λ n. length (filter (stands_in n k) es) ≤ spare_at new k) (sym same) (room_at old new e es k (omega (arith, below, same)) room falls others)

-- ---- one more new slot

pub parts_more : (now : List Slot) (b : BySlot) (slots n slot k : ℕ) (s new : Slot) → by_slot now ≡ b ++ parts b slots n → length b + n ≡ slot
    → k ≡ slot_of slot (length b) → k < length b → s ≡ get_or now k s → new.entries ≡ filter (stands_in slots slot) s.entries
    → by_slot (now ++ new ∷ []) ≡ b ++ parts b slots (n + 1)
parts_more now b slots n slot k s new so sum at below is picks =
    let long : length now ≡ length b + length (parts b slots n) =
    sym (length-by_slot now) ∙ ap (λ (xs : BySlot). length xs) so ∙ length-append b (parts b slots n) in
    let was : s.entries ≡ entries_at b k =
    sym (entries_of_bucket now k s is (omega (arith, below, long))) ∙ ap (λ (xs : BySlot). entries_at xs k) so
    ∙ get_or_append_left b (parts b slots n) [] k below in
    let own : new.entries ≡ part_at b slots slot =
    picks ∙ ap (λ (es : List Entry). filter (stands_in slots slot) es) (was ∙ ap (λ j. entries_at b j) at) in
    map-append (λ (x : Slot). x.entries) now (new ∷ [])
    ∙ ap (λ (xs : BySlot). xs ++ new.entries ∷ []) so
    ∙ append_assoc b (parts b slots n) (new.entries ∷ [])
    ∙ ap (λ (es : List Entry). b ++ (parts b slots n ++ es ∷ [])) own
    ∙ ap (λ (xs : BySlot). b ++ xs) (sym (map-range_with_len_more (part_at b slots) (length b) n slot sum))
