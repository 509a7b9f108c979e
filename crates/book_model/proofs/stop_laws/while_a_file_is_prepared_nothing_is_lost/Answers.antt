use Rattle.book_model.proofs.Prepared.{stops_preparing}
use Rattle.book_model.proofs.stop_laws.while_a_file_is_prepared_nothing_is_lost.Goals as goal

pub returns : goal.returns
returns c = stops_preparing c.blocks_below.ensures c.stops_below.ensures
