use Rattle.text_model.proofs.PrintedBytes.{printed_not_low}
use Rattle.text_model.proofs.printed_laws.printed_form_has_no_byte_below_32.Goals as goal

pub returns : goal.returns
returns c = printed_not_low
