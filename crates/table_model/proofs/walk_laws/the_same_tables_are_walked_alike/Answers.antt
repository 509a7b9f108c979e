use Rattle.table_model.proofs.WalkOrder.{keys_alike, walked_alike, counts_alike}
use Rattle.table_model.proofs.walk_laws.the_same_tables_are_walked_alike.Goals as goal

pub returns-clause-keys : goal.returns-clause-keys
returns-clause-keys c = keys_alike

pub returns-clause-objects : goal.returns-clause-objects
returns-clause-objects c = walked_alike

pub returns-clause-number : goal.returns-clause-number
returns-clause-number c = counts_alike
