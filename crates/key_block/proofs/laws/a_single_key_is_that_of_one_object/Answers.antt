use Rattle.key_block.proofs.OneObject.{one_object}
use Rattle.key_block.proofs.laws.a_single_key_is_that_of_one_object.Goals as goal

pub returns : goal.returns
returns c = one_object c.a_payload_has_its_objects.ensures
