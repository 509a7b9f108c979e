use Rattle.std.proofs.Common.{not, ◌∙◌}
use Rattle.dets_term.specs.TermValue.{TermValue, key}
use Rattle.table_model.specs.Table.{shares_key}
use Rattle.dets_machine.proofs.Kept.{AreOfSet-filter, AreOfSet-with_object}
use Rattle.dets_machine.proofs.table.Table.insert.Goals as goal

pub invariant_of-self : goal.invariant_of-self
invariant_of-self c =
    let left = c.in_err-push.ensures.items ∙ c.remove_key.ensures in
    rw left (AreOfSet-filter (λ (other : TermValue). not (shares_key 1 (key c.args.object 1) other)) c.self.inside.objects.items c.self.invariant)

pub invariant_of-self-2 : goal.invariant_of-self-2
invariant_of-self-2 c =
    rw (c.in_ok-push.ensures.items, c.remove_key.ensures) (AreOfSet-with_object c.self.inside.objects.items c.args.object c.self.invariant c.requires)
