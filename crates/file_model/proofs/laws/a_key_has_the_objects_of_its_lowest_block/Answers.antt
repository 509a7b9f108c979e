use Rattle.file_model.proofs.Lowest.{lowest}
use Rattle.file_model.proofs.laws.a_key_has_the_objects_of_its_lowest_block.Goals as goal

pub returns : goal.returns
returns c = lowest
