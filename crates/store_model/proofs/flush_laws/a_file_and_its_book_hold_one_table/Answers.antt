use Rattle.std.proofs.Common.{refl}
use Rattle.table_model.specs.Table.{objects_of}
use Rattle.etf_model.specs.Canonical.{spelled}
use Rattle.write_cache.specs.Waiting.{state_of}
use Rattle.store_model.specs.Stores.{table_with}
use Rattle.store_model.proofs.OneTable.{one_list}
use Rattle.store_model.proofs.flush_laws.a_file_and_its_book_hold_one_table.Goals as goal

pub returns : goal.returns
returns c file b t u first second k is =
    one_list file b first.of_file k (table_with b.place.head file) (state_of b.cache (spelled k)) (objects_of t k) (objects_of u k) refl
    (first.keys k is) (second.keys k is)
