use Rattle.std.proofs.Common.{◌≡◌, ◌≤◌, ◌<◌, ◌-◌, ◌^◌, List, length, Option, Some, None, sym, subst, arith}
use Rattle.std.specs.Prelude.{IfSome}
use Rattle.std.specs.Option.{option_copied}
use Rattle.file_model.specs.declared.entry.Entry.{Entry}
use Rattle.slot_table.specs.BySlot.{Slot, BySlot, by_slot, entries_in, HasRoomFor, LacksUnit}
use Rattle.slot_table.proofs.Steps.{room_first}
use Rattle.flush_engine.specs.Entering.{next_entry, in_front, MayCome}
use Rattle.flush_engine.proofs.entering.enter.Goals as goal

-- the new entry may come, once the old one is gone
may_come : (o p : Option Entry) (left : BySlot) (now : List Slot) (es : List Entry) → p ≡ o → by_slot now ≡ left → 1 ≤ length now
    → IfSome o (λ e. LacksUnit left e.unit) → length (entries_in left) < 2 ^ 32 - 1 → HasRoomFor now (in_front o es) → IfSome p (MayCome now)
may_come o None left now es same is some lacks few room = tt
may_come None (Some e) left now es same is some lacks few room = absurd (cc same)
may_come (Some f) (Some e) left now es same is some lacks few room =
    let one : f ≡ e = cc same in
    record {
      room = room_first now e es some (subst (λ (x : Entry). HasRoomFor now (in_front (Some x) es)) one room);
      lacks = subst (λ b. LacksUnit b e.unit) (sym is) (subst (λ (x : Entry). LacksUnit left x.unit) one lacks);
      few = subst (λ b. length (entries_in b) < 2 ^ 32 - 1) (sym is) few;
    }

pub come-requires : goal.come-requires
come-requires c =
    let r = c.requires in
    let hash = c.args.change.hash in
    may_come (next_entry hash c.args.unit c.args.change.next) (next_entry hash c.args.unit (option_copied c.as_ref.result)) _ c.leave.new.directory r.room.0
    (λ i. next_entry hash c.args.unit (c.as_ref.ensures.value i)) c.leave.ensures.entries (omega (arith, r.slots, c.leave.ensures.slots)) r.lacks r.few
    (c.leave.ensures.room (in_front (next_entry hash c.args.unit c.args.change.next) r.room.0) r.room.1)
