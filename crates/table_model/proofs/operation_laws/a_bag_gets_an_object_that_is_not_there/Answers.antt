use Rattle.table_model.proofs.Inserted.{in_a_bag}
use Rattle.table_model.proofs.operation_laws.a_bag_gets_an_object_that_is_not_there.Goals as goal

pub returns-clause-key : goal.returns-clause-key
returns-clause-key c = in_a_bag
