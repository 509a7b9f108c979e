use Rattle.table_model.proofs.Walks.{touched_in_walk_is}
use Rattle.table_model.proofs.walk_laws.a_deletion_touches_each_key_once.Goals as goal

pub returns-clause-exactly : goal.returns-clause-exactly
returns-clause-exactly c = touched_in_walk_is
