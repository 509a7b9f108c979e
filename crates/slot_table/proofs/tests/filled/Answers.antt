use Rattle.std.proofs.Common.{◌≡◌, ◌≤◌, ◌+◌, [], List, length, ap, ◌∙◌, subst, ⊎_elim, arith}
use Rattle.space_model.specs.Apart.{In}
use Rattle.space_model.proofs.Splits.{slot_below}
use Rattle.file_model.specs.declared.entry.Entry.{Entry}
use Rattle.slot_table.specs.BySlot.{Slot, BySlot, by_slot, entries_in, with_entry}
use Rattle.slot_table.proofs.Tables.{length-by_slot}
use Rattle.slot_table.proofs.Steps.{room_first}
use Rattle.slot_table.proofs.Entering.{in_added, in_parted}
use Rattle.slot_table.proofs.Keeping.{added_keys, keys_parted}
use Rattle.slot_table.proofs.tests.filled.Goals as goal

pub add-requires-clause-room : goal.add-requires-clause-room
add-requires-clause-room c =
    let old = c.loop-number.invariant.slots in
    let same = c.in_ok-reserve.ensures.slots in
    room_first c.reserve.new.self c.entry_of-entry.result [] (omega (arith, old, same)) c.in_ok-reserve.ensures.room

pub add-requires-clause-unit : goal.add-requires-clause-unit
add-requires-clause-unit c = λ e a is.
    let small = c.loop-number.invariant.units e (subst (λ (b : BySlot). In e (entries_in b)) c.in_ok-reserve.ensures.entries a) in
    omega (arith, small, is, c.entry_of-entry.ensures.unit)

added_one : (old mid new : List Slot) (e : Entry) → by_slot mid ≡ by_slot old → by_slot new ≡ with_entry (by_slot mid) e → 1 ≤ length mid
    → length (entries_in (by_slot new)) ≡ length (entries_in (by_slot old)) + 1
added_one old mid new e same more some =
    let long = length-by_slot mid in
    ap (λ (b : BySlot). length (entries_in b)) more
    ∙ added_keys (by_slot mid) e (slot_below e.hash (length (by_slot mid)) (omega (arith, some, long)))
    ∙ ap (λ (b : BySlot). length (entries_in b) + 1) same

pub grow_to-requires : goal.grow_to-requires
grow_to-requires c =
    let old = c.loop-number.invariant.slots in
    let same = c.in_ok-reserve.ensures.slots in
    let stays = c.add.ensures.slots in
    let some : 1 ≤ length c.reserve.new.self = omega (arith, old, same) in
    let more = added_one c.loop-number.directory c.reserve.new.self c.add.new.self c.entry_of-entry.result c.in_ok-reserve.ensures.entries c.add.ensures.added some in
    let keys = c.loop-number.invariant.keys in
    omega (arith, old, same, stays, more, keys, c.max.ensures, c.keys-keys.ensures)

pub loop-number-preserved : goal.loop-number-preserved
loop-number-preserved c =
    let old = c.loop-number.invariant.slots in
    let same = c.in_ok-reserve.ensures.slots in
    let some : 1 ≤ length c.reserve.new.self = omega (arith, old, same) in
    let more = added_one c.loop-number.directory c.reserve.new.self c.add.new.self c.entry_of-entry.result c.in_ok-reserve.ensures.entries c.add.ensures.added some in
    let keys = c.loop-number.invariant.keys in
    let all = c.in_ok-grow_to.ensures.ok in
    record {
      slots = omega (arith, more, keys, c.max.ensures, c.keys-keys.ensures, c.in_ok-grow_to.ensures.slots);
      keys = ap (λ (b : BySlot). length (entries_in b)) all
          ∙ keys_parted c.max.result (entries_in (by_slot c.add.new.self)) (omega (arith, c.max.ensures)) ∙ more ∙ ap (λ n. n + 1) keys;
      units = λ e a.
          let there = in_parted c.max.result (entries_in (by_slot c.add.new.self)) e (subst (λ (b : BySlot). In e (entries_in b)) all a) in
          ⊎_elim
          (λ (new : c.entry_of-entry.result ≡ e).
          let unit : c.entry_of-entry.result.unit ≡ e.unit = ap (λ (x : Entry). x.unit) new in
          omega (arith, unit, c.entry_of-entry.ensures.unit))
          (λ (stood : In e (entries_in (by_slot c.reserve.new.self))).
          let small = c.loop-number.invariant.units e (subst (λ (b : BySlot). In e (entries_in b)) c.in_ok-reserve.ensures.entries stood) in
          omega (arith, small))
          (in_added (by_slot c.reserve.new.self) c.entry_of-entry.result e (subst (λ (b : BySlot). In e (entries_in b)) c.add.ensures.added there));
    }
