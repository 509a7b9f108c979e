use Rattle.text_model.proofs.Scripts.{script_behind}
use Rattle.text_model.proofs.laws.a_script_goes_on_behind_its_first_term.Goals as goal

pub returns : goal.returns
returns c = script_behind
