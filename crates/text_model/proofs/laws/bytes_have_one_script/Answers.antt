use Rattle.text_model.proofs.Scripts.{one_script}
use Rattle.text_model.proofs.laws.bytes_have_one_script.Goals as goal

pub returns : goal.returns
returns c = one_script
