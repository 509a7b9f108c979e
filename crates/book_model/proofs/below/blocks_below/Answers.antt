use Rattle.book_model.proofs.below.blocks_below.Goals as goal

pub returns : goal.returns
returns c = record {
  read = c.a_block_stands_as_it_is_read.ensures.read;
  taken = c.open_gates_stand_at_taken_units_alone_where_nothing_is_rejected.ensures.none;
  only = c.open_gates_stand_at_taken_units_alone_where_nothing_is_rejected.ensures.only;
  located = c.a_header_is_located_where_it_is_read.ensures.head;
}
