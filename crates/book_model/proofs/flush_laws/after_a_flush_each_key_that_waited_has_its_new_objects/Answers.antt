use Rattle.book_model.proofs.NewObjects.{have_new}
use Rattle.book_model.proofs.flush_laws.after_a_flush_each_key_that_waited_has_its_new_objects.Goals as goal

pub returns : goal.returns
returns c = have_new c.blocks_below.ensures c.new_blocks_below.ensures c.writes_below.ensures
