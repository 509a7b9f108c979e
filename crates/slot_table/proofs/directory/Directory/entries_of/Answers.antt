use Rattle.std.proofs.Common.{List, subst, sym, ◌∙◌}
use Rattle.file_model.specs.declared.entry.Entry.{Entry}
use Rattle.slot_table.specs.BySlot.{by_slot, IsSlotOf}
use Rattle.slot_table.proofs.Tables.{entries_of_bucket}
use Rattle.slot_table.proofs.Keeping.{slot_is}
use Rattle.slot_table.proofs.directory.Directory.entries_of.Goals as goal

pub returns-clause-exactly : goal.returns-clause-exactly
returns-clause-exactly c =
    rw (← c.self.view_is)
    (subst (λ (es : List Entry). IsSlotOf (by_slot c.self.inside.buckets.items) c.args.slot es)
    (entries_of_bucket c.self.inside.buckets.items c.args.slot c.index.result.now c.index.ensures (rw c.self.view_is c.requires) ∙ sym c.entries.ensures)
    (slot_is (by_slot c.self.inside.buckets.items) c.args.slot c.self.invariant.directory))
