use Rattle.std.proofs.Common.{◌≡◌, ◌≤◌, ◌+◌, ◌-◌, ◌++◌, ◌∷◌, [], List, length, take, ap, sym, ◌∙◌, arith}
use Rattle.std.proofs.lemmas.List.{take-append-le}
use Rattle.space_model.specs.Slots.{slot_of}
use Rattle.slot_table.specs.BySlot.{Slot, by_slot}
use Rattle.slot_table.specs.Turns.{parts}
use Rattle.slot_table.proofs.Tables.{length-by_slot}
use Rattle.slot_table.proofs.Steps.{parts_more}
use Rattle.slot_table.proofs.buckets.push_parts.Goals as goal

pub loop-slot-preserved : goal.loop-slot-preserved
loop-slot-preserved c =
    let from = c.loop-slot.auto.slot in
    let long : length (by_slot c.args.buckets.now.items) ≡ c.args.old = length-by_slot c.args.buckets.now.items ∙ sym c.args.buckets.now.ok.0 ∙ c.requires.length in
    let now : c.args.old ≤ length c.loop-slot.buckets.items = omega (arith, c.loop-slot.buckets.ok.0, c.loop-slot.invariant.length, from) in
    let more : c.loop-slot.slot - c.args.old + 1 ≡ c.loop-slot.slot + 1 - c.args.old = omega (arith, from) in
    let within = c.slot_of.ensures.within in
    record {
      length = omega (arith, c.in_ok-push.ensures.len, c.loop-slot.invariant.length);
      parts = ap by_slot c.in_ok-push.ensures.items
          ∙ parts_more c.loop-slot.buckets.items (by_slot c.args.buckets.now.items) c.args.slots (c.loop-slot.slot - c.args.old) c.loop-slot.slot
          c.slot_of.result c.index.result.now c.in_ok-bucket.bucket c.loop-slot.invariant.parts (omega (arith, long, from))
          (c.slot_of.ensures.value ∙ ap (λ n. slot_of c.loop-slot.slot n) (sym long)) (omega (arith, within, long)) c.index.ensures c.in_ok-bucket.ensures
          ∙ ap (λ n. by_slot c.args.buckets.now.items ++ parts (by_slot c.args.buckets.now.items) c.args.slots n) more;
      front = ap (λ (xs : List Slot). take c.args.old xs) c.in_ok-push.ensures.items
          ∙ take-append-le c.args.old c.loop-slot.buckets.items (c.in_ok-bucket.bucket ∷ []) now
          ∙ c.loop-slot.invariant.front;
    }
