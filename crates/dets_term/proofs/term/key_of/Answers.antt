use Rattle.std.proofs.Common.{◌≡◌, ◌∙◌, sym, ap, arith}
use Rattle.term_model.specs.TermValue.{key, tuple, chain, nil}
use Rattle.dets_term.specs.Node.{shown}
use Rattle.dets_term.proofs.NodeKinds.{key_of_tuple, key_of_other}
use Rattle.dets_term.proofs.term.key_of.Goals as goal
use Rattle.dets_term.proofs.term.key_of.Goals.{in_default-via-in-Tuple+else-keypos-gt0, in_default-via-in_default}

pub returns-in-Tuple : goal.returns-in-Tuple
returns-in-Tuple c =
    c.get.ensures ∙ key_of_tuple c.in-Tuple.parts c.args.keypos c.if-keypos-gt0.true
    ∙ ap (λ t. key t c.args.keypos) (ap shown (sym c.in-Tuple.is) ∙ c.node.ensures.value)

pub returns-in_default : goal.returns-in_default
returns-in_default c =
    elim c.in_default.branch [
      | in_default-via-in-Tuple+else-keypos-gt0 w ↦
          ap (λ k. key (tuple (chain w.in-Tuple.parts nil)) k) (let e : 0 ≡ c.args.keypos = omega arith in e)
          ∙ ap (λ t. key t c.args.keypos) (ap shown (sym w.in-Tuple.is) ∙ c.node.ensures.value)
      | in_default-via-in_default w ↦
          key_of_other c.node.result.now c.args.keypos c.node.ensures.sound w.in_default.not-Tuple ∙ ap (λ t. key t c.args.keypos) c.node.ensures.value
    ]
