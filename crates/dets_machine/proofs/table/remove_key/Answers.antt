use Rattle.std.proofs.Common.{not, rules}
use Rattle.std.proofs.lemmas.Fn.{filter_same}
use Rattle.dets_term.specs.TermValue.{TermValue, key}
use Rattle.table_model.specs.Table.{shares_key}
use Rattle.dets_machine.proofs.table.remove_key.Goals as goal

pub returns : goal.returns
returns c =
    filter_same _ (λ (other : TermValue). not (shares_key 1 (key c.args.object.now 1) other)) _
    (λ x b f' h. search rules) c.args.objects.now.items c.retain.new.self.items c.retain.ensures.filtered
