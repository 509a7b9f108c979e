use Rattle.file_model.proofs.Rejects.{table_without}
use Rattle.file_model.proofs.laws.closing_the_gates_of_rejects_leaves_the_table.Goals as goal

pub returns : goal.returns
returns c = table_without
