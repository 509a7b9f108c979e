use Rattle.std.proofs.Common.{refl, sym}
use Rattle.table_model.specs.Table.{objects_of}
use Rattle.store_model.specs.Stores.{table_with}
use Rattle.store_model.proofs.OneTable.{none_waits, as_filed}
use Rattle.store_model.proofs.flush_laws.where_nothing_waits_the_table_is_that_of_the_file.Goals as goal

pub returns-clause-holds : goal.returns-clause-holds
returns-clause-holds c file b of none = record {
  of_file = of;
  kind = refl;
  keypos = refl;
  keys = λ k is. none_waits b (table_with b.place.head file) k (objects_of (table_with b.place.head file) k) none refl;
}

pub returns-clause-alone : goal.returns-clause-alone
returns-clause-alone c file b t st none k is =
    sym (as_filed b (table_with b.place.head file) k (objects_of t k) none (st.keys k is))
