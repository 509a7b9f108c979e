use Rattle.std.proofs.Common.{◌∙◌, ap, sym, nat_eq}
use Rattle.dets_term.specs.Node.{shown}
use Rattle.run_model.specs.Step.{is_empty_list}
use Rattle.dets_machine.proofs.Nodes.{is_empty_list-chain, is_empty_list_other}
use Rattle.dets_machine.proofs.command.is_empty_list.Goals as goal

pub returns-in-List : goal.returns-in-List
returns-in-List c =
    ap (λ n. nat_eq n 0) c.len.ensures ∙ is_empty_list-chain c.in-List.parts ∙ ap is_empty_list (ap shown (sym c.in-List.is) ∙ c.node.ensures.value)

pub returns-in_default : goal.returns-in_default
returns-in_default c = is_empty_list_other c.node.result.now c.node.ensures.sound c.in_default.not-List ∙ ap is_empty_list c.node.ensures.value
