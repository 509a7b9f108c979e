use Rattle.std.proofs.Common.{rules}
use Rattle.std.proofs.lemmas.Fn.{filter_same}
use Rattle.slot_table.specs.BySlot.{is_other}
use Rattle.slot_table.proofs.bucket.Bucket.remove.Goals as goal

pub returns-clause-entries : goal.returns-clause-entries
returns-clause-entries c =
    rw (← c.self.view_is)
    (filter_same _ (is_other c.args.hash c.args.unit) _ (λ x b f' h. search rules) c.self.inside.entries.items c.retain.new.self.items c.retain.ensures.filtered)
