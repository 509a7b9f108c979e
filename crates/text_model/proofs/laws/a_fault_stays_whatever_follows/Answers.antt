use Rattle.text_model.proofs.Scripts.{fault_stays}
use Rattle.text_model.proofs.laws.a_fault_stays_whatever_follows.Goals as goal

pub returns : goal.returns
returns c = fault_stays
