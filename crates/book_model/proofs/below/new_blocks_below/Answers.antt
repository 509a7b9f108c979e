use Rattle.book_model.proofs.below.new_blocks_below.Goals as goal

pub returns : goal.returns
returns c = record {
  room = c.a_payload_has_room_in_the_least_block.ensures.room;
  aligned = c.gates_and_units_do_not_meet.ensures.aligned;
  whole = c.gates_and_units_do_not_meet.ensures.whole;
  meets_none = c.a_free_run_meets_no_block_and_has_no_open_gate.ensures.meets_none;
  shut = c.a_free_run_meets_no_block_and_has_no_open_gate.ensures.shut;
  packed = c.the_block_of_objects_stands.ensures;
}
