use Rattle.std.proofs.Common.{[], sym, subst, ◌∙◌, arith}
use Rattle.slot_table.specs.BySlot.{BySlot, by_slot, LacksUnit}
use Rattle.slot_table.proofs.Steps.{room_first}
use Rattle.slot_table.proofs.Tables.{length-by_slot}
use Rattle.table_core.proofs.Opened.{lacks_unit}
use Rattle.table_core.proofs.opening.enter_block.Goals as goal

pub add-requires-clause-room : goal.add-requires-clause-room
add-requires-clause-room c =
    room_first c.reserve.new.self c.args.entry []
    (omega (arith, c.reserve.ensures.slots, length-by_slot c.args.directory.now, c.requires.directory.many)) c.in_ok-reserve.ensures.room

pub add-requires-clause-unit : goal.add-requires-clause-unit
add-requires-clause-unit c =
    subst (λ (b : BySlot). LacksUnit b c.args.entry.unit) (sym c.reserve.ensures.entries)
    (lacks_unit c.args.space.now c.args.entry (by_slot c.args.directory.now) c.requires.taken (sym c.claim.ensures.free ∙ c.if-claim.true))
