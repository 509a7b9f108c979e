use Rattle.table_model.proofs.Walks.{objects_walked}
use Rattle.table_model.proofs.walk_laws.a_walk_meets_the_objects_of_the_table.Goals as goal

pub returns : goal.returns
returns c = objects_walked
