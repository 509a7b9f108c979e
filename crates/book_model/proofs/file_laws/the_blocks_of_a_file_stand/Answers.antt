use Rattle.book_model.proofs.OfFile.{stands_of}
use Rattle.book_model.proofs.file_laws.the_blocks_of_a_file_stand.Goals as goal

pub returns : goal.returns
returns c = stands_of
