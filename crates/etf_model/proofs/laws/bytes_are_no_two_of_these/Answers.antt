use Rattle.etf_model.specs.Spelling.{spelling}
use Rattle.etf_model.specs.SpellingExact.{spelling-exact}
use Rattle.etf_model.specs.Beginnings.{whole_or_break, whole_or_part, break_or_part}
use Rattle.etf_model.proofs.laws.bytes_are_no_two_of_these.Goals as goal

pub returns-clause-spelling_or_break : goal.returns-clause-spelling_or_break
returns-clause-spelling_or_break c = whole_or_break spelling spelling-exact

pub returns-clause-spelling_or_part : goal.returns-clause-spelling_or_part
returns-clause-spelling_or_part c = whole_or_part spelling spelling-exact

pub returns-clause-break_or_part : goal.returns-clause-break_or_part
returns-clause-break_or_part c = break_or_part spelling spelling-exact
