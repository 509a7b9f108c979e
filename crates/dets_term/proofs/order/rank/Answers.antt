use Rattle.std.proofs.Common.{◌∙◌, ap, sym, subst, arith}
use Rattle.term_model.specs.Order.{rank}
use Rattle.dets_term.specs.Node.{shown, IsSound}
use Rattle.term_model.specs.TermValue.{nil}
use Rattle.dets_term.proofs.NodeKinds.{rank-chain, rank-no_elements}
use Rattle.dets_term.proofs.order.rank.Goals as goal

pub returns-then-len-eq0 : goal.returns-then-len-eq0
returns-then-len-eq0 c =
    sym (ap rank (sym c.term.view_is ∙ ap shown c.in-List.is) ∙ rank-no_elements c.in-List.parts (omega arith))

pub returns-else-len-eq0 : goal.returns-else-len-eq0
returns-else-len-eq0 c =
    sym (ap rank (sym c.term.view_is ∙ ap shown c.in-List.is) ∙ rank-chain c.in-List.parts nil (let d = c.if-len-eq0.false in omega arith))

pub returns-in-Improper : goal.returns-in-Improper
returns-in-Improper c =
    sym (ap rank (sym c.term.view_is ∙ ap shown c.in-Improper.is)
    ∙ rank-chain c.in-Improper.field-0 c.in-Improper.field-1.value (subst IsSound c.in-Improper.is c.term.invariant.1).0)
