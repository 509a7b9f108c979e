use Rattle.std.proofs.Common.{◌∙◌, ap, sym, rules}
use Rattle.std.specs.Ordering.{nat_cmp, ordering_then}
use Rattle.dets_term.proofs.BitOrder.{bits_order, all_bytes}
use Rattle.dets_term.proofs.order.cmp_bytes.Goals as goal

pub returns : goal.returns
returns c = λ u w p q.
    ap (λ o. ordering_then o (nat_cmp u w)) c.cmp.ensures
    ∙ sym (bits_order c.args.bytes.now c.args.others.now u w (all_bytes c.args.bytes.now (λ i h. search rules))
    (all_bytes c.args.others.now (λ i h. search rules)) p q)
