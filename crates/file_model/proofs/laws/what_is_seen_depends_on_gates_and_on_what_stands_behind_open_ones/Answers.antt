use Rattle.file_model.proofs.Local.{images_same}
use Rattle.file_model.proofs.laws.what_is_seen_depends_on_gates_and_on_what_stands_behind_open_ones.Goals as goal

pub returns : goal.returns
returns c = images_same
