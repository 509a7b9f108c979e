use Rattle.file_model.proofs.Seen.{open_turn}
use Rattle.file_model.proofs.laws.open_units_follow_one_another.Goals as goal

pub returns : goal.returns
returns c = open_turn
