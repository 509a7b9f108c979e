use Rattle.text_model.proofs.Scripts.{script_exists}
use Rattle.text_model.proofs.laws.bytes_have_a_script.Goals as goal

pub returns : goal.returns
returns c = script_exists
