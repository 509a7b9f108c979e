use Rattle.book_model.proofs.OfFile.{same_of}
use Rattle.book_model.proofs.file_laws.a_file_that_shows_the_same_has_the_same_book.Goals as goal

pub returns : goal.returns
returns c = same_of
