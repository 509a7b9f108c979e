use Rattle.etf_model.proofs.SpellingSharp.{skipped-sharp}
use Rattle.etf_model.proofs.skipping_laws.the_last_byte_of_a_skip_break_is_the_first_to_break_a_rule.Goals as goal

pub returns : goal.returns
returns c bytes fault b = skipped-sharp.break_sharp 0 0 bytes fault b
