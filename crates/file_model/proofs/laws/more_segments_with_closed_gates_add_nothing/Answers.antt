use Rattle.file_model.proofs.Grown.{table_grown}
use Rattle.file_model.proofs.laws.more_segments_with_closed_gates_add_nothing.Goals as goal

pub returns : goal.returns
returns c = table_grown
