use Rattle.std.proofs.Common.{arith}
use Rattle.etf_codec.proofs.JoinSteps.{fit_more, fit_last, may_go_on, may_end, item_goes_on, items_end}
use Rattle.etf_codec.proofs.joining.join_item.Goals as goal

pub returns-then-ahead-eq0-clause-joins : goal.returns-then-ahead-eq0-clause-joins
returns-then-ahead-eq0-clause-joins c begun position =
    items_end c.args.ahead c.args.start c.args.at c.args.parts c.push.new.self c.args.part c.if-ahead-eq0.true c.in_ok-push.ensures.ok begun position

pub returns-then-ahead-eq0-clause-within : goal.returns-then-ahead-eq0-clause-within
returns-then-ahead-eq0-clause-within c levels l fits part = (
  fit_last c.args.parts c.push.new.self c.args.part c.args.ahead levels c.in_ok-push.ensures.ok fits part,
  λ outer may. may_end outer c.args.ahead c.args.parts c.push.new.self may,
)

pub returns-clause-joins : goal.returns-clause-joins
returns-clause-joins c begun position =
    item_goes_on c.args.ahead c.args.start c.args.at c.args.parts c.push.new.self c.args.part (omega arith) c.in_ok-push.ensures.ok begun position

pub returns-clause-within : goal.returns-clause-within
returns-clause-within c levels l fits part = (
  fit_more c.args.parts c.push.new.self c.args.part c.args.ahead levels (omega arith) c.in_ok-push.ensures.ok fits part,
  λ outer may. may_go_on outer c.args.ahead _ c.args.parts c.push.new.self may,
)
