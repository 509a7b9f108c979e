use Rattle.book_model.proofs.Opened.{opened_of}
use Rattle.book_model.proofs.file_laws.an_opened_book_is_that_of_its_file.Goals as goal

pub returns : goal.returns
returns c = opened_of c.blocks_below.ensures
