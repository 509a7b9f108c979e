use Rattle.std.proofs.Common.{List, subst, take_all}
use Rattle.file_model.specs.declared.entry.Entry.{Entry}
use Rattle.slot_table.specs.BySlot.{HasRoomFor}
use Rattle.slot_table.proofs.Steps.{room_made, has_room}
use Rattle.slot_table.proofs.buckets.make_room.Goals as goal

pub returns-then-pushed-entries-clause-entries : goal.returns-then-pushed-entries-clause-entries
returns-then-pushed-entries-clause-entries c =
    room_made c.args.buckets.now c.push_each-pushed.new.buckets c.pop_each.new.buckets _ c.push_each-pushed.ensures.pushed c.push_each-pushed.auto.buckets c.pop_each.ensures

pub returns-clause-entries : goal.returns-clause-entries
returns-clause-entries c =
    room_made c.args.buckets.now c.push_each-pushed.new.buckets c.pop_each.new.buckets _ c.push_each-pushed.ensures.pushed c.push_each-pushed.auto.buckets c.pop_each.ensures

pub returns-clause-room : goal.returns-clause-room
returns-clause-room c =
    subst (λ (es : List Entry). HasRoomFor c.pop_each.new.buckets es) (take_all c.push_each-pushed.result c.args.entries.now c.if-pushed-entries.false)
    (has_room c.args.buckets.now c.push_each-pushed.new.buckets c.pop_each.new.buckets _ c.push_each-pushed.ensures.pushed c.push_each-pushed.auto.buckets
    c.pop_each.ensures)
