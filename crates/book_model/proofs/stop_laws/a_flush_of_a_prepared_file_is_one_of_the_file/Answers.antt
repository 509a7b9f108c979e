use Rattle.book_model.proofs.Prepared.{stops_behind, new_behind}
use Rattle.book_model.proofs.stop_laws.a_flush_of_a_prepared_file_is_one_of_the_file.Goals as goal

pub returns-clause-stopped : goal.returns-clause-stopped
returns-clause-stopped c = λ old mid now b place of p stopped.
    stops_behind c.blocks_below.ensures c.stops_below.ensures old mid b of place p now stopped

pub returns-clause-new : goal.returns-clause-new
returns-clause-new c = λ old mid new b place of p have.
    new_behind c.blocks_below.ensures c.stops_below.ensures old mid b of place p new have
