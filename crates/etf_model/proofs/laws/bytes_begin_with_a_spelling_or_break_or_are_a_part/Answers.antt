use Rattle.etf_model.specs.Spelling.{spelling}
use Rattle.etf_model.specs.SpellingExact.{spelling-exact}
use Rattle.etf_model.specs.Beginnings.{one_of_three}
use Rattle.etf_model.proofs.laws.bytes_begin_with_a_spelling_or_break_or_are_a_part.Goals as goal

pub returns : goal.returns
returns c = one_of_three spelling spelling-exact
