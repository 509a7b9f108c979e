use Rattle.text_model.proofs.PrintedTexts.{printed_sentence}
use Rattle.text_model.proofs.printed_laws.printed_form_is_a_sentence.Goals as goal

pub returns : goal.returns
returns c = printed_sentence
