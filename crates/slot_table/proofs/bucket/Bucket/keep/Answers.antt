use Rattle.std.proofs.Common.{rules}
use Rattle.std.proofs.lemmas.Fn.{filter_same}
use Rattle.slot_table.specs.BySlot.{stands_in}
use Rattle.slot_table.proofs.bucket.Bucket.keep.Goals as goal

pub returns : goal.returns
returns c =
    rw (← c.self.view_is)
    (filter_same _ (stands_in c.args.slots c.args.slot) _ (λ x b f' h. search rules) c.self.inside.entries.items c.retain.new.self.items c.retain.ensures.filtered)
