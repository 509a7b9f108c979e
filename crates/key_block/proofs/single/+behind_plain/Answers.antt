use Rattle.std.proofs.Common.{ℕ, ◌-◌, List, IfNone, subst, sym, arith}
use Rattle.key_block.specs.Single.{ArePlainFront}
use Rattle.key_block.proofs.PlainFronts.{one_more, none_in_front, none_behind, if_some, if_none}
use Rattle.key_block.proofs.single.+behind_plain.Goals as goal

pub returns-in_err-plain_length-clause-none : goal.returns-in_err-plain_length-clause-none
returns-in_err-plain_length-clause-none t c =
    subst (λ o. IfNone o ((rest : List ℕ) → ArePlainFront c.args.count c.args.bytes.now rest → ⊥)) (sym c.from_residual.ensures)
    (none_in_front c.args.count c.args.bytes.now (omega arith) c.in_err-plain_length.ensures)

pub returns-clause-found : goal.returns-clause-found
returns-clause-found t c =
    if_some c.behind_plain.result (λ rest. ArePlainFront (c.args.count - 1) c.split_at.result.1.now rest.now)
    (λ rest. ArePlainFront c.args.count c.args.bytes.now rest.now)
    (λ rest. one_more c.args.count c.args.bytes.now _ _ (omega arith) c.in_ok-plain_length.ensures c.split_at.ensures.back rest.now)
    c.behind_plain.ensures.found

pub returns-clause-none : goal.returns-clause-none
returns-clause-none t c =
    if_none c.behind_plain.result ((rest : List ℕ) → ArePlainFront (c.args.count - 1) c.split_at.result.1.now rest → ⊥)
    ((rest : List ℕ) → ArePlainFront c.args.count c.args.bytes.now rest → ⊥)
    (none_behind c.args.count c.args.bytes.now _ _ (omega arith) c.in_ok-plain_length.ensures c.split_at.ensures.back) c.behind_plain.ensures.none
