use Rattle.std.proofs.Common.{◌∙◌, sym}
use Rattle.text_model.proofs.Answering.{answer_only}
use Rattle.text_model.proofs.laws.bytes_have_one_answer.Goals as goal

pub returns : goal.returns
returns c = λ finished bytes answer other is was. answer_only finished bytes answer is ∙ sym (answer_only finished bytes other was)
