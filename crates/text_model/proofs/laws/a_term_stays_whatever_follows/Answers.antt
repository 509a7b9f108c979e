use Rattle.text_model.proofs.Scripts.{term_stays}
use Rattle.text_model.proofs.laws.a_term_stays_whatever_follows.Goals as goal

pub returns : goal.returns
returns c = term_stays
