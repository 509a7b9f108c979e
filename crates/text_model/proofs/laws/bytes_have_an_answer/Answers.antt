use Rattle.text_model.specs.Progress.{answer_of}
use Rattle.text_model.proofs.Answering.{answer_is}
use Rattle.text_model.proofs.laws.bytes_have_an_answer.Goals as goal

pub returns : goal.returns
returns c = λ finished bytes. (answer_of finished bytes, answer_is finished bytes)
