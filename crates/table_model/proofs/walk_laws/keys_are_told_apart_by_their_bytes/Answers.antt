use Rattle.table_model.proofs.Spelled.{equal_from_spelled}
use Rattle.table_model.proofs.walk_laws.keys_are_told_apart_by_their_bytes.Goals as goal

pub returns : goal.returns
returns c = equal_from_spelled
