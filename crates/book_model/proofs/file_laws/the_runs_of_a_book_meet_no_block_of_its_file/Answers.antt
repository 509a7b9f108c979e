use Rattle.book_model.proofs.OfFile.{follows}
use Rattle.book_model.proofs.file_laws.the_runs_of_a_book_meet_no_block_of_its_file.Goals as goal

pub returns : goal.returns
returns c = follows c.blocks_below.ensures
