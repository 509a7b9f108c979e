use Rattle.etf_model.specs.Spelling.{spelling}
use Rattle.etf_model.specs.SpellingExact.{spelling-exact}
use Rattle.etf_model.specs.Beginnings.{no_proper_prefix}
use Rattle.etf_model.proofs.laws.no_spelling_is_a_proper_prefix_of_another.Goals as goal

pub returns : goal.returns
returns c = no_proper_prefix spelling spelling-exact
