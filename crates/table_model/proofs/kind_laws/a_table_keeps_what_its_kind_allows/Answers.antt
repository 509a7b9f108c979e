use Rattle.table_model.proofs.AllowedKept.{empty_allowed, inserts_allowed, insert_new_allowed, delete_allowed, counter_allowed}
use Rattle.table_model.proofs.kind_laws.a_table_keeps_what_its_kind_allows.Goals as goal

pub returns-clause-empty : goal.returns-clause-empty
returns-clause-empty c = empty_allowed

pub returns-clause-insert : goal.returns-clause-insert
returns-clause-insert c = inserts_allowed

pub returns-clause-insert_new : goal.returns-clause-insert_new
returns-clause-insert_new c = insert_new_allowed

pub returns-clause-delete : goal.returns-clause-delete
returns-clause-delete c = delete_allowed

pub returns-clause-counter : goal.returns-clause-counter
returns-clause-counter c = counter_allowed
