use Rattle.text_model.proofs.PrintedTexts.{printed_of_one_term}
use Rattle.text_model.proofs.printed_laws.printed_form_is_of_one_term.Goals as goal

pub returns : goal.returns
returns c = printed_of_one_term
