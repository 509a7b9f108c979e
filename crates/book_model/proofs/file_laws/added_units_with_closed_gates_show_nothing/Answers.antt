use Rattle.book_model.proofs.Closed.{shows_same}
use Rattle.book_model.proofs.file_laws.added_units_with_closed_gates_show_nothing.Goals as goal

pub returns : goal.returns
returns c = shows_same
