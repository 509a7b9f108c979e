use Rattle.book_model.proofs.Stopping.{stops_as_it_is, stops_flushed}
use Rattle.book_model.proofs.stop_laws.a_file_may_be_left_as_it_is_or_flushed.Goals as goal

pub returns-clause-as_it_is : goal.returns-clause-as_it_is
returns-clause-as_it_is c = stops_as_it_is c.blocks_below.ensures c.stops_below.ensures

pub returns-clause-flushed : goal.returns-clause-flushed
returns-clause-flushed c = λ old b of grown dirty.
    stops_flushed c.blocks_below.ensures c.stops_below.ensures old b of c.new_blocks_below.ensures c.writes_below.ensures
    grown dirty
