use Rattle.std.proofs.Common.{true, [], ◌∷◌, ◌++◌}
use Rattle.std.specs.Prelude.{codes}
use Rattle.text_model.proofs.Answering.{answer_is}
use Rattle.text_model.proofs.rows.tokens_are_judged_where_they_begin.Goals as goal

pub returns-clause-stray : goal.returns-clause-stray
returns-clause-stray c = answer_is true (codes "{a 99999999999999999999999999999999999999999999999999")

pub returns-clause-stray_quote : goal.returns-clause-stray_quote
returns-clause-stray_quote c = answer_is true (codes "{a 'x" ++ 255 ∷ [])

pub returns-clause-stray_open : goal.returns-clause-stray_open
returns-clause-stray_open c = answer_is true (codes "{a 'x")

pub returns-clause-stray_minus : goal.returns-clause-stray_minus
returns-clause-stray_minus c = answer_is true (codes "{a -")

pub returns-clause-stray_less : goal.returns-clause-stray_less
returns-clause-stray_less c = answer_is true (codes "{a <")

pub returns-clause-minus_apart : goal.returns-clause-minus_apart
returns-clause-minus_apart c = answer_is true (codes "- 1")

pub returns-clause-stop_inside : goal.returns-clause-stop_inside
returns-clause-stop_inside c = answer_is true (codes "[1.")

pub returns-clause-stop_no_end : goal.returns-clause-stop_no_end
returns-clause-stop_no_end c = answer_is true (codes "a.b")
