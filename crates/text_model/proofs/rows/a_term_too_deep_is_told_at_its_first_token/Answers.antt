use Rattle.std.proofs.Common.{true, ◌++◌}
use Rattle.std.specs.Prelude.{replicate, codes}
use Rattle.text_model.proofs.Answering.{answer_is}
use Rattle.text_model.proofs.rows.a_term_too_deep_is_told_at_its_first_token.Goals as goal

pub returns-clause-deep_quote : goal.returns-clause-deep_quote
returns-clause-deep_quote c = answer_is true (replicate 256 91 ++ codes "'")

pub returns-clause-deep_less : goal.returns-clause-deep_less
returns-clause-deep_less c = answer_is true (replicate 256 91 ++ codes "<x")

pub returns-clause-deep_less_end : goal.returns-clause-deep_less_end
returns-clause-deep_less_end c = answer_is true (replicate 256 91 ++ codes "<")

pub returns-clause-deep_comma : goal.returns-clause-deep_comma
returns-clause-deep_comma c = answer_is true (replicate 256 91 ++ codes ",")

pub returns-clause-deep_string : goal.returns-clause-deep_string
returns-clause-deep_string c = answer_is true (replicate 255 91 ++ codes "\"\\1")

pub returns-clause-deep_string_bad : goal.returns-clause-deep_string_bad
returns-clause-deep_string_bad c = answer_is true (replicate 255 91 ++ codes "\"\\q")
