use Rattle.text_model.proofs.OneSentence.{one_sentence}
use Rattle.text_model.proofs.laws.bytes_begin_with_one_term.Goals as goal

pub returns : goal.returns
returns c = one_sentence
