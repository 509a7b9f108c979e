use Rattle.book_model.proofs.Flushable.{flushable}
use Rattle.book_model.proofs.flush_laws.a_book_of_a_file_may_be_flushed.Goals as goal

pub returns : goal.returns
returns c = flushable c.blocks_below.ensures c.new_blocks_below.ensures
