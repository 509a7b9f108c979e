use Rattle.std.proofs.Common.{◌≡◌, length, take, ap, sym, ◌∙◌, arith, filter}
use Rattle.std.proofs.lemmas.List.{length-take-le}
use Rattle.space_model.specs.Slots.{slot_of}
use Rattle.slot_table.specs.BySlot.{Slot, by_slot, stands_in}
use Rattle.slot_table.proofs.Tables.{length-by_slot}
use Rattle.slot_table.proofs.Splitting.{split_more}
use Rattle.slot_table.proofs.buckets.keep_own.Goals as goal

pub loop-slot-preserved : goal.loop-slot-preserved
loop-slot-preserved c =
    let all : length (by_slot c.args.buckets.now) ≡ c.args.slots = length-by_slot c.args.buckets.now ∙ c.requires.length in
    let long : length (take c.args.old (by_slot c.args.buckets.now)) ≡ c.args.old =
    length-take-le c.args.old (by_slot c.args.buckets.now) (omega (arith, all, c.requires.more)) in
    let within = c.slot_of-split.ensures.within in
    split_more c.loop-slot.buckets (take c.args.old (by_slot c.args.buckets.now)) c.args.slots c.loop-slot.slot c.slot_of-split.result c.index-buckets-split.result
    c.keep.new.self (omega (arith, long, c.requires.some)) (omega (arith, long, c.requires.more)) c.loop-slot.invariant
    (c.slot_of-split.ensures.value ∙ ap (λ n. slot_of c.loop-slot.slot n) (sym long)) (omega (arith, within, long)) c.index-buckets-split.is
    (c.keep.ensures ∙ ap (λ (s : Slot). filter (stands_in c.args.slots c.slot_of-split.result) s.entries) (sym c.index-buckets-split.is))
