use Rattle.file_model.proofs.OfObjects.{packed_stands}
use Rattle.file_model.proofs.packing_laws.the_block_of_objects_stands.Goals as goal

pub returns : goal.returns
returns c =
    packed_stands c.the_canonical_spelling_spells_its_term.ensures c.a_payload_has_room_in_the_least_block.ensures.room
    (c.a_payload_has_room_in_the_least_block.ensures.in_a_segment 12)
