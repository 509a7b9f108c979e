use Rattle.table_model.proofs.SameTables.{all_inserted_same, all_new_same, new_inserted_same, deleted_same, member_same}
use Rattle.table_model.proofs.operation_laws.the_same_tables_stay_the_same.Goals as goal

pub returns-clause-insert : goal.returns-clause-insert
returns-clause-insert c = all_inserted_same

pub returns-clause-are_new : goal.returns-clause-are_new
returns-clause-are_new c = all_new_same

pub returns-clause-insert_new : goal.returns-clause-insert_new
returns-clause-insert_new c = new_inserted_same

pub returns-clause-delete : goal.returns-clause-delete
returns-clause-delete c = deleted_same

pub returns-clause-member : goal.returns-clause-member
returns-clause-member c = member_same
