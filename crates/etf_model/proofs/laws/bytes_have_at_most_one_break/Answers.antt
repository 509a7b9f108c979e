use Rattle.etf_model.specs.Spelling.{spelling}
use Rattle.etf_model.specs.SpellingExact.{spelling-exact}
use Rattle.etf_model.proofs.SpellingSharp.{spelling-sharp}
use Rattle.etf_model.proofs.Breaks.{one_break}
use Rattle.etf_model.proofs.laws.bytes_have_at_most_one_break.Goals as goal

pub returns : goal.returns
returns c = one_break spelling spelling-exact spelling-sharp
