use Rattle.std.proofs.Common.{List, ◌∙◌, ap, sym}
use Rattle.dets_term.specs.Node.{shown}
use Rattle.dets_term.specs.TermValue.{TermValue, tuple, chain, nil}
use Rattle.run_model.specs.InMemory.{command_of}
use Rattle.dets_machine.proofs.Nodes.{three, command_of_other_tuple, command_of_other}
use Rattle.dets_machine.proofs.command.three_parts.Goals as goal
use Rattle.dets_machine.proofs.command.three_parts.Goals.{in_default-via-in-Tuple+else-len-eq3, in_default-via-in_default}

pub returns-in_ok-get-in-Tuple-3-clause-parts : goal.returns-in_ok-get-in-Tuple-3-clause-parts
returns-in_ok-get-in-Tuple-3-clause-parts c =
    let whole = three c.in-Tuple.parts _ _ _ (sym c.len.ensures ∙ c.if-len-eq3.true) c.in_ok-get-in-Tuple.ensures c.in_ok-get-in-Tuple-2.ensures
    c.in_ok-get-in-Tuple-3.ensures in
    sym c.node.ensures.value ∙ ap shown c.in-Tuple.is ∙ ap (λ (ts : List TermValue). tuple (chain ts nil)) whole

pub returns-in_default-clause-other : goal.returns-in_default-clause-other
returns-in_default-clause-other c =
    ap command_of (sym c.node.ensures.value)
    ∙ elim c.in_default.branch [
      | in_default-via-in-Tuple+else-len-eq3 w ↦
          ap (λ n. command_of (shown n)) w.in-Tuple.is ∙ command_of_other_tuple w.in-Tuple.parts (λ e. w.if-len-eq3.false (w.len.ensures ∙ e))
      | in_default-via-in_default w ↦ command_of_other c.node.result.now c.node.ensures.sound w.in_default.not-Tuple
    ]
