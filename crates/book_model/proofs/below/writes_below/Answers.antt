use Rattle.book_model.proofs.below.writes_below.Goals as goal

pub returns : goal.returns
returns c = record {
  torn_bodies = c.torn_bodies_in_free_runs_are_not_seen.ensures;
  bodies_stand = c.written_bodies_stand.ensures;
  seen = c.what_is_seen_depends_on_gates_and_on_what_stands_behind_open_ones.ensures;
  torn_gates = c.torn_gates_open_or_close_some.ensures.torn;
  gates_opened = c.written_gates_are_open_or_closed.ensures.opened;
  gates_closed = c.written_gates_are_open_or_closed.ensures.closed;
  flushed = c.after_a_flush_each_key_has_its_new_objects.ensures;
  no_block = c.a_key_has_the_objects_of_its_one_block.ensures.none;
}
