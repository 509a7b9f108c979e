use Rattle.std.proofs.Common.{◌≡◌, ◌<◌, ◌≤◌, ◌-◌, ◌^◌, ◌+◌, length, set, ◌∙◌, subst, arith}
use Rattle.slot_table.specs.BySlot.{by_slot, spare_at, entries_in, LacksUnit}
use Rattle.slot_table.proofs.Tables.{slot_among, one_more_entry, spare_falls, spare_set_other}
use Rattle.slot_table.proofs.Keeping.{kept_added, objects_le}
use Rattle.slot_table.proofs.directory.Directory.add.Goals as goal

pub overflow_add-self-2 : goal.overflow_add-self-2
overflow_add-self-2 c =
    let count : c.args.entry.count < 2 ^ 32 = omega arith in
    let few : length (entries_in (by_slot c.self.inside.buckets.items)) < 2 ^ 32 - 1 = rw c.self.view_is c.requires.few in
    let all = objects_le (entries_in (by_slot c.self.inside.buckets.items)) c.self.invariant.counts in
    omega (arith, count, few, all, c.self.invariant.objects_are)

pub returns-clause-added : goal.returns-clause-added
returns-clause-added c =
    let s = slot_among c.self.inside.buckets.items c.args.self.now c.args.entry.hash c.slots.result c.slot_of-slot.result c.self.view_is c.slots.ensures.slots
    c.slot_of-slot.ensures.value c.slot_of-slot.ensures.within in
    rw (← c.self.view_is)
    (one_more_entry c.self.inside.buckets.items c.slot_of-slot.result c.index_mut-bucket.result.now c.add.new.self c.args.entry s.at
    c.index_mut-bucket.ensures.value s.below c.add.ensures.entries)

pub invariant_of-self : goal.invariant_of-self
invariant_of-self c =
    let count : c.args.entry.count < 2 ^ 32 = omega arith in
    let s = slot_among c.self.inside.buckets.items c.args.self.now c.args.entry.hash c.slots.result c.slot_of-slot.result c.self.view_is c.slots.ensures.slots
    c.slot_of-slot.ensures.value c.slot_of-slot.ensures.within in
    let lacks : LacksUnit (by_slot c.self.inside.buckets.items) c.args.entry.unit = rw c.self.view_is c.requires.unit in
    rw (
      one_more_entry c.self.inside.buckets.items c.slot_of-slot.result c.index_mut-bucket.result.now c.add.new.self c.args.entry s.at
          c.index_mut-bucket.ensures.value s.below c.add.ensures.entries,
      c.from.ensures,
    )
    (kept_added (by_slot c.self.inside.buckets.items) c.self.inside.keys c.self.inside.objects c.args.entry c.self.invariant lacks count)

pub returns-clause-room : goal.returns-clause-room
returns-clause-room c =
    let s = slot_among c.self.inside.buckets.items c.args.self.now c.args.entry.hash c.slots.result c.slot_of-slot.result c.self.view_is c.slots.ensures.slots
    c.slot_of-slot.ensures.value c.slot_of-slot.ensures.within in
    rw (← c.self.view_is)
    (subst (λ k. spare_at c.self.inside.buckets.items k ≤ spare_at (set c.self.inside.buckets.items c.slot_of-slot.result c.add.new.self) k + 1) s.at
    (spare_falls c.self.inside.buckets.items c.slot_of-slot.result c.index_mut-bucket.result.now c.add.new.self c.index_mut-bucket.ensures.value s.below c.add.ensures.room))

pub returns-clause-others : goal.returns-clause-others
returns-clause-others c =
    let s = slot_among c.self.inside.buckets.items c.args.self.now c.args.entry.hash c.slots.result c.slot_of-slot.result c.self.view_is c.slots.ensures.slots
    c.slot_of-slot.ensures.value c.slot_of-slot.ensures.within in
    rw (← c.self.view_is) (λ k apart.
    spare_set_other c.self.inside.buckets.items c.slot_of-slot.result k c.add.new.self (λ (is : k ≡ c.slot_of-slot.result). apart (is ∙ s.at)))
