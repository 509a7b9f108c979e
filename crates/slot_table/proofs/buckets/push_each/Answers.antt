use Rattle.std.proofs.Common.{ap, sym, ◌∙◌, arith}
use Rattle.slot_table.specs.BySlot.{Slot}
use Rattle.slot_table.proofs.Tables.{same_entries}
use Rattle.slot_table.proofs.Steps.{pushed_more}
use Rattle.slot_table.proofs.buckets.push_each.Goals as goal

pub returns-in-Err-clause-pushed : goal.returns-in-Err-clause-pushed
returns-in-Err-clause-pushed c =
    let long = c.loop-place.auto.buckets in
    let within = c.slot_of-slot.ensures.within in
    same_entries c.loop-place.buckets c.slot_of-slot.result c.index-buckets-slot.result c.push.new.self c.index-buckets-slot.is (omega (arith, long, within))
    (c.in-Err.ensures.err ∙ ap (λ (s : Slot). s.entries) (sym c.index-buckets-slot.is))
    ∙ c.loop-place.invariant

pub loop-place-preserved : goal.loop-place-preserved
loop-place-preserved c =
    let long = c.loop-place.auto.buckets in
    let within = c.slot_of-slot.ensures.within in
    pushed_more c.args.buckets.now c.loop-place.buckets c.args.entries.now c.loop-place.place c.slot_of-slot.result c.index-buckets-slot.result c.push.new.self _
    c.loop-place.invariant long c.loop-place-test.true c.slot_of-slot.ensures.value c.index-buckets-slot.is within
    c.in-Ok.ensures.ok
