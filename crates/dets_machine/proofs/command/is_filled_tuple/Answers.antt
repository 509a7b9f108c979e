use Rattle.std.proofs.Common.{◌∙◌, ap, sym, nat_lt}
use Rattle.dets_term.specs.Node.{shown}
use Rattle.run_model.specs.Step.{is_filled_tuple}
use Rattle.dets_machine.proofs.Nodes.{is_filled_tuple-tuple, is_filled_tuple_other}
use Rattle.dets_machine.proofs.command.is_filled_tuple.Goals as goal

pub returns-in-Tuple : goal.returns-in-Tuple
returns-in-Tuple c =
    ap (λ n. nat_lt 0 n) c.len.ensures ∙ is_filled_tuple-tuple c.in-Tuple.parts ∙ ap is_filled_tuple (ap shown (sym c.in-Tuple.is) ∙ c.node.ensures.value)

pub returns-in_default : goal.returns-in_default
returns-in_default c = is_filled_tuple_other c.node.result.now c.node.ensures.sound c.in_default.not-Tuple ∙ ap is_filled_tuple c.node.ensures.value
