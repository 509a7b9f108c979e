use Rattle.std.proofs.Common.{◌+◌, ◌-◌, ap, sym, ◌∙◌, length, take}
use Rattle.slot_table.specs.BySlot.{Slot}
use Rattle.slot_table.proofs.Steps.{popped_more}
use Rattle.slot_table.proofs.buckets.pop_each.Goals as goal

pub loop-entry-preserved : goal.loop-entry-preserved
loop-entry-preserved c =
    popped_more c.args.buckets.now c.loop-entry.buckets c.args.entries.now c.loop-entry.entry-index c.slot_of.result c.index-buckets-slot_of.result c.pop.new.self _
    c.loop-entry.invariant c.loop-entry-test.true c.slot_of.ensures.value c.index-buckets-slot_of.is c.slot_of.ensures.within
    (c.pop.ensures.entries ∙ ap (λ (s : Slot). take (length s.entries - 1) s.entries) (sym c.index-buckets-slot_of.is))
    (c.pop.ensures.room ∙ ap (λ (s : Slot). s.spare + length s.entries) (sym c.index-buckets-slot_of.is))
