use Rattle.book_model.proofs.Settled.{settles}
use Rattle.book_model.proofs.flush_laws.after_a_flush_the_book_is_that_of_the_new_file.Goals as goal

pub returns : goal.returns
returns c = settles c.blocks_below.ensures c.new_blocks_below.ensures c.writes_below.ensures
