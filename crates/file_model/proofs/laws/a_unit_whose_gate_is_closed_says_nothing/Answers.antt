use Rattle.file_model.proofs.Seen.{view_same}
use Rattle.file_model.proofs.laws.a_unit_whose_gate_is_closed_says_nothing.Goals as goal

pub returns : goal.returns
returns c = view_same
