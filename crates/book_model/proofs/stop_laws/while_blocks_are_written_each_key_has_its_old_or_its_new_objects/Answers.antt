use Rattle.book_model.proofs.Stopping.{stops_writing}
use Rattle.book_model.proofs.stop_laws.while_blocks_are_written_each_key_has_its_old_or_its_new_objects.Goals as goal

pub returns : goal.returns
returns c = λ old now b of grown dirty stopped.
    stops_writing c.blocks_below.ensures c.stops_below.ensures old b of c.new_blocks_below.ensures c.writes_below.ensures
    grown dirty now stopped
