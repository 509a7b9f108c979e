use Rattle.std.proofs.Common.{◌≡◌, ◌≤◌, ◌++◌, ◌-◌, ℕ, List, length, take, drop, ap, sym, ◌∙◌, subst, arith}
use Rattle.slot_table.specs.BySlot.{Slot, BySlot, by_slot, entries_in, parted, IsKept}
use Rattle.slot_table.specs.Turns.{parts, IsSplit}
use Rattle.slot_table.proofs.Tables.{length-by_slot, whole}
use Rattle.slot_table.proofs.Splitting.{split_begun, split_done, length_begun}
use Rattle.slot_table.proofs.Keeping.{kept_parted}
use Rattle.slot_table.proofs.directory.Directory.grow_to.Goals as goal

pub keep_own-requires-clause-length : goal.keep_own-requires-clause-length
keep_own-requires-clause-length c =
    let long : length (by_slot c.self.inside.buckets.items) ≡ c.slots-old.result =
    length-by_slot c.self.inside.buckets.items ∙ ap (λ (s : List Slot). length s) c.self.view_is ∙ sym c.slots-old.ensures.slots in
    let more : c.slots-old.result ≤ c.args.slots = omega (arith, c.slots-old.ensures.slots, c.requires) in
    ap (λ (s : List Slot). length s) c.deref_mut.ensures.value ∙ sym (length-by_slot c.push_parts.new.buckets.items)
    ∙ length_begun (by_slot c.self.inside.buckets.items) (by_slot c.push_parts.new.buckets.items) c.args.slots c.slots-old.result long more c.in_default.ensures.ok

pub keep_own-requires-clause-split : goal.keep_own-requires-clause-split
keep_own-requires-clause-split c =
    let long : length (by_slot c.self.inside.buckets.items) ≡ c.slots-old.result =
    length-by_slot c.self.inside.buckets.items ∙ ap (λ (s : List Slot). length s) c.self.view_is ∙ sym c.slots-old.ensures.slots in
    let more : c.slots-old.result ≤ c.args.slots = omega (arith, c.slots-old.ensures.slots, c.requires) in
    let d = c.self.invariant.directory in
    subst (λ (s : List Slot). IsSplit (take c.slots-old.result (by_slot s)) c.args.slots c.slots-old.result (by_slot s)) (sym c.deref_mut.ensures.value)
    (split_begun (by_slot c.self.inside.buckets.items) (by_slot c.push_parts.new.buckets.items) c.args.slots c.slots-old.result long (omega (arith, long, d.many)) more
    d.own c.in_default.ensures.ok)

after_split : (old begun new : List Slot) (n slots was keys objects : ℕ) → n ≡ length begun → length new ≡ length begun → length old ≡ was → was ≤ slots
    → IsKept (by_slot old) keys objects → by_slot begun ≡ by_slot old ++ parts (by_slot old) slots (slots - was)
    → IsSplit (take was (by_slot begun)) slots slots (by_slot new)
    → by_slot (take n (new ++ drop (length new) begun)) ≡ parted slots (entries_in (by_slot old))
after_split old begun new n slots was keys objects all same long more kept is p =
    let l : length (by_slot old) ≡ was = length-by_slot old ∙ long in
    let d = kept.directory in
    ap by_slot (whole n new begun all same)
    ∙ split_done (by_slot old) (by_slot begun) (by_slot new) slots was l (omega (arith, l, d.many)) more d.own is p

pub invariant_of-self-2 : goal.invariant_of-self-2
invariant_of-self-2 c =
    let items = c.deref_mut.ensures.value in
    let long : length c.self.inside.buckets.items ≡ c.slots-old.result = ap (λ (s : List Slot). length s) c.self.view_is ∙ sym c.slots-old.ensures.slots in
    let more : c.slots-old.result ≤ c.args.slots = omega (arith, c.slots-old.ensures.slots, c.requires) in
    let l = length-by_slot c.self.inside.buckets.items in
    subst (λ (b : BySlot). IsKept b c.self.inside.keys c.self.inside.objects)
    (sym (after_split c.self.inside.buckets.items c.push_parts.new.buckets.items c.keep_own.new.buckets c.push_parts.new.buckets.len c.args.slots c.slots-old.result
    c.self.inside.keys c.self.inside.objects c.push_parts.new.buckets.ok.0 (c.keep_own.auto.buckets ∙ ap (λ (s : List Slot). length s) items) long more
    c.self.invariant c.in_default.ensures.ok
    (subst (λ (s : List Slot). IsSplit (take c.slots-old.result (by_slot s)) c.args.slots c.args.slots (by_slot c.keep_own.new.buckets)) items c.keep_own.ensures)))
    (kept_parted (by_slot c.self.inside.buckets.items) c.args.slots c.self.inside.keys c.self.inside.objects c.self.invariant (omega (arith, l, long, more)) c.ranges.slots.fits)

pub returns-clause-ok : goal.returns-clause-ok
returns-clause-ok c =
    let items = c.deref_mut.ensures.value in
    let long : length c.self.inside.buckets.items ≡ c.slots-old.result = ap (λ (s : List Slot). length s) c.self.view_is ∙ sym c.slots-old.ensures.slots in
    let more : c.slots-old.result ≤ c.args.slots = omega (arith, c.slots-old.ensures.slots, c.requires) in
    after_split c.self.inside.buckets.items c.push_parts.new.buckets.items c.keep_own.new.buckets c.push_parts.new.buckets.len c.args.slots c.slots-old.result
    c.self.inside.keys c.self.inside.objects c.push_parts.new.buckets.ok.0 (c.keep_own.auto.buckets ∙ ap (λ (s : List Slot). length s) items) long more
    c.self.invariant c.in_default.ensures.ok
    (subst (λ (s : List Slot). IsSplit (take c.slots-old.result (by_slot s)) c.args.slots c.args.slots (by_slot c.keep_own.new.buckets)) items c.keep_own.ensures)
    ∙ ap (λ (s : List Slot). parted c.args.slots (entries_in (by_slot s))) c.self.view_is
