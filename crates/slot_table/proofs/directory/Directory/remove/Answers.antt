use Rattle.std.proofs.Common.{arith}
use Rattle.slot_table.specs.BySlot.{by_slot}
use Rattle.slot_table.proofs.Tables.{slot_among, spare_stays}
use Rattle.slot_table.proofs.Found.{found_in, absent_in, unchanged_in, removed_from}
use Rattle.slot_table.proofs.Keeping.{kept_removed, removed_keys, removed_objects}
use Rattle.slot_table.proofs.directory.Directory.remove.Goals as goal

pub returns-in_err-entry-clause-absent : goal.returns-in_err-entry-clause-absent
returns-in_err-entry-clause-absent c =
    let s = slot_among c.self.inside.buckets.items c.args.self.now c.args.hash c.slots.result c.slot_of-slot.result c.self.view_is c.slots.ensures.slots
    c.slot_of-slot.ensures.value c.slot_of-slot.ensures.within in
    let d = c.self.invariant.directory in
    rw (c.from_residual.ensures, ← c.self.view_is)
    (absent_in c.self.inside.buckets.items c.slot_of-slot.result c.index.result.now c.entries.result.now c.args.hash c.args.unit d.own s c.index.ensures
    c.entries.ensures c.in_err-entry.ensures)

pub returns-in_err-entry-clause-removed : goal.returns-in_err-entry-clause-removed
returns-in_err-entry-clause-removed c =
    let s = slot_among c.self.inside.buckets.items c.args.self.now c.args.hash c.slots.result c.slot_of-slot.result c.self.view_is c.slots.ensures.slots
    c.slot_of-slot.ensures.value c.slot_of-slot.ensures.within in
    let d = c.self.invariant.directory in
    rw (← c.self.view_is)
    (unchanged_in c.self.inside.buckets.items c.slot_of-slot.result c.index.result.now c.entries.result.now c.args.hash c.args.unit d.own s c.index.ensures
    c.entries.ensures c.in_err-entry.ensures)

pub returns-clause-found : goal.returns-clause-found
returns-clause-found c =
    let s = slot_among c.self.inside.buckets.items c.args.self.now c.args.hash c.slots.result c.slot_of-slot.result c.self.view_is c.slots.ensures.slots
    c.slot_of-slot.ensures.value c.slot_of-slot.ensures.within in
    rw (← c.self.view_is)
    (found_in c.self.inside.buckets.items c.slot_of-slot.result c.index.result.now c.entries.result.now c.args.hash c.args.unit c.in_ok-entry.entry s c.index.ensures
    c.entries.ensures c.in_ok-entry.ensures)

pub overflow_sub-self : goal.overflow_sub-self
overflow_sub-self c =
    let s = slot_among c.self.inside.buckets.items c.args.self.now c.args.hash c.slots.result c.slot_of-slot.result c.self.view_is c.slots.ensures.slots
    c.slot_of-slot.ensures.value c.slot_of-slot.ensures.within in
    let f = found_in c.self.inside.buckets.items c.slot_of-slot.result c.index.result.now c.entries.result.now c.args.hash c.args.unit c.in_ok-entry.entry s c.index.ensures
    c.entries.ensures c.in_ok-entry.ensures in
    let d = c.self.invariant.directory in
    let less = removed_keys (by_slot c.self.inside.buckets.items) c.args.hash c.args.unit c.in_ok-entry.entry d.units f.0 f.1 f.2 in
    omega (arith, less, c.self.invariant.keys_are)

pub overflow_sub-self-2 : goal.overflow_sub-self-2
overflow_sub-self-2 c =
    let s = slot_among c.self.inside.buckets.items c.args.self.now c.args.hash c.slots.result c.slot_of-slot.result c.self.view_is c.slots.ensures.slots
    c.slot_of-slot.ensures.value c.slot_of-slot.ensures.within in
    let f = found_in c.self.inside.buckets.items c.slot_of-slot.result c.index.result.now c.entries.result.now c.args.hash c.args.unit c.in_ok-entry.entry s c.index.ensures
    c.entries.ensures c.in_ok-entry.ensures in
    let d = c.self.invariant.directory in
    let less = removed_objects (by_slot c.self.inside.buckets.items) c.args.hash c.args.unit c.in_ok-entry.entry d.units f.0 f.1 f.2 in
    omega (arith, less, c.self.invariant.objects_are, c.from.ensures)

pub returns-clause-removed : goal.returns-clause-removed
returns-clause-removed c =
    let s = slot_among c.self.inside.buckets.items c.args.self.now c.args.hash c.slots.result c.slot_of-slot.result c.self.view_is c.slots.ensures.slots
    c.slot_of-slot.ensures.value c.slot_of-slot.ensures.within in
    let d = c.self.invariant.directory in
    rw (← c.self.view_is)
    (removed_from c.self.inside.buckets.items c.slot_of-slot.result c.index_mut-bucket.result.now c.remove.new.self c.args.hash c.args.unit d.own s
    c.index_mut-bucket.ensures.value c.remove.ensures.entries)

pub returns-clause-room : goal.returns-clause-room
returns-clause-room c =
    let s = slot_among c.self.inside.buckets.items c.args.self.now c.args.hash c.slots.result c.slot_of-slot.result c.self.view_is c.slots.ensures.slots
    c.slot_of-slot.ensures.value c.slot_of-slot.ensures.within in
    rw (← c.self.view_is) (λ k.
    spare_stays c.self.inside.buckets.items c.slot_of-slot.result k c.index_mut-bucket.result.now c.remove.new.self c.index_mut-bucket.ensures.value s.below c.remove.ensures.room)

pub invariant_of-self : goal.invariant_of-self
invariant_of-self c =
    let s = slot_among c.self.inside.buckets.items c.args.self.now c.args.hash c.slots.result c.slot_of-slot.result c.self.view_is c.slots.ensures.slots
    c.slot_of-slot.ensures.value c.slot_of-slot.ensures.within in
    let f = found_in c.self.inside.buckets.items c.slot_of-slot.result c.index.result.now c.entries.result.now c.args.hash c.args.unit c.in_ok-entry.entry s c.index.ensures
    c.entries.ensures c.in_ok-entry.ensures in
    let d = c.self.invariant.directory in
    rw (
      removed_from c.self.inside.buckets.items c.slot_of-slot.result c.index_mut-bucket.result.now c.remove.new.self c.args.hash c.args.unit d.own s
          c.index_mut-bucket.ensures.value c.remove.ensures.entries,
      c.from.ensures,
    )
    (kept_removed (by_slot c.self.inside.buckets.items) c.self.inside.keys c.self.inside.objects c.args.hash c.args.unit c.in_ok-entry.entry c.self.invariant f.0 f.1 f.2)
