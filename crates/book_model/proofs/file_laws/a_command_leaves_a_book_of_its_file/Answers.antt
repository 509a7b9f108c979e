use Rattle.book_model.proofs.OfFile.{planned_of}
use Rattle.book_model.proofs.file_laws.a_command_leaves_a_book_of_its_file.Goals as goal

pub returns : goal.returns
returns c = planned_of c.places_and_states.ensures
