use Rattle.std.proofs.Common.{◌≡◌, ◌∙◌, ap, sym}
use Rattle.std.specs.Ordering.{is_eq}
use Rattle.term_model.specs.Order.{is_same}
use Rattle.term_model.specs.Same.{same_decides}
use Rattle.dets_term.proofs.order.eq.Goals as goal

pub returns : goal.returns
returns c =
    let decides = same_decides c.args.a.now c.args.b.now in
    let test : c.is_eq.result ≡ is_same c.args.a.now c.args.b.now = c.is_eq.ensures ∙ ap is_eq c.cmp.ensures in
    (λ t. decides.0 (sym test ∙ t), λ e. test ∙ decides.1 e)
