use Rattle.std.proofs.Common.{[], refl}
use Rattle.etf_model.specs.Spelling.{spelling}
use Rattle.etf_model.specs.SpellingExact.{spelling-exact}
use Rattle.etf_model.specs.Beginnings.{same_whole}
use Rattle.etf_model.proofs.laws.bytes_spell_at_most_one_term.Goals as goal

pub returns : goal.returns
returns c t u bytes v w = (same_whole spelling spelling-exact t u bytes [] bytes [] v w refl).0
