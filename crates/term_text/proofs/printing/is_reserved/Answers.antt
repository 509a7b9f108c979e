use Rattle.text_model.specs.Printed.{is_reserved}
use Rattle.term_text.proofs.printing.is_reserved.Goals as goal

pub returns : goal.returns
unfolding is_reserved
returns c = c.is_among.ensures
