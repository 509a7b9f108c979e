use Rattle.etf_codec.proofs.JoinSteps.{within_as}
use Rattle.etf_codec.proofs.joining.join.Goals as goal

pub returns-in-Element-clause-within : goal.returns-in-Element-clause-within
returns-in-Element-clause-within c = within_as c.args.begun _ c.args.part c.join_element.result c.in-Element.is c.join_element.ensures.within

pub returns-in-Item-clause-within : goal.returns-in-Item-clause-within
returns-in-Item-clause-within c = within_as c.args.begun _ c.args.part c.join_item.result c.in-Item.is c.join_item.ensures.within

pub returns-in-Tail-clause-within : goal.returns-in-Tail-clause-within
returns-in-Tail-clause-within c = within_as c.args.begun _ c.args.part c.join_tail.result c.in-Tail.is c.join_tail.ensures.within

pub returns-in-Key-clause-within : goal.returns-in-Key-clause-within
returns-in-Key-clause-within c = within_as c.args.begun _ c.args.part c.join_key.result c.in-Key.is c.join_key.ensures.within

pub returns-in-Value-clause-within : goal.returns-in-Value-clause-within
returns-in-Value-clause-within c = within_as c.args.begun _ c.args.part c.join_value.result c.in-Value.is c.join_value.ensures.within
