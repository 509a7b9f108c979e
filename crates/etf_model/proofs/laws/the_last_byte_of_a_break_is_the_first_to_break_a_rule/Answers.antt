use Rattle.etf_model.proofs.SpellingSharp.{spelling-sharp}
use Rattle.etf_model.proofs.laws.the_last_byte_of_a_break_is_the_first_to_break_a_rule.Goals as goal

pub returns : goal.returns
returns c start bytes fault b = spelling-sharp.break_sharp start start bytes fault b
