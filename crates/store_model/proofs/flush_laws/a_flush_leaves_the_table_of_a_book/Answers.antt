use Rattle.store_model.proofs.OneTable.{flushed_store}
use Rattle.store_model.proofs.flush_laws.a_flush_leaves_the_table_of_a_book.Goals as goal

pub returns : goal.returns
returns c = flushed_store c.keys_are_told_apart_by_their_bytes.ensures
