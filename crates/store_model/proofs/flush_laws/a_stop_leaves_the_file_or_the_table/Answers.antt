use Rattle.store_model.proofs.OneTable.{between}
use Rattle.store_model.proofs.flush_laws.a_stop_leaves_the_file_or_the_table.Goals as goal

pub returns : goal.returns
returns c = between c.keys_are_told_apart_by_their_bytes.ensures
