use Rattle.std.proofs.Common.{true, [], ◌∷◌, ◌++◌}
use Rattle.std.specs.Prelude.{codes}
use Rattle.text_model.proofs.Answering.{answer_is}
use Rattle.text_model.proofs.rows.escapes_are_of_unicode_scalar_values.Goals as goal

pub returns-clause-escape : goal.returns-clause-escape
returns-clause-escape c = answer_is true (codes "'\\" ++ 255 ∷ [])

pub returns-clause-surrogate : goal.returns-clause-surrogate
returns-clause-surrogate c = answer_is true (codes "'\\x{110000")

pub returns-clause-surrogate_open : goal.returns-clause-surrogate_open
returns-clause-surrogate_open c = answer_is true (codes "'\\x{D800")

pub returns-clause-surrogate_closed : goal.returns-clause-surrogate_closed
returns-clause-surrogate_closed c = answer_is true (codes "'\\x{D800}")

pub returns-clause-empty_braces : goal.returns-clause-empty_braces
returns-clause-empty_braces c = answer_is true (codes "'\\x{}")
