use Rattle.std.proofs.Common.{List, length, ap, ◌∙◌}
use Rattle.slot_table.specs.BySlot.{Slot}
use Rattle.slot_table.proofs.Tables.{whole}
use Rattle.slot_table.proofs.directory.Directory.reserve.Goals as goal

pub returns-clause-slots : goal.returns-clause-slots
returns-clause-slots c =
    let same = c.make_room.auto.buckets ∙ ap (λ (s : List Slot). length s) c.deref_mut.ensures.value in
    ap (λ (s : List Slot). length s) (whole c.self.inside.buckets.len c.make_room.new.buckets c.self.inside.buckets.items c.self.inside.buckets.ok.0 same)
    ∙ same ∙ ap (λ (s : List Slot). length s) c.self.view_is
