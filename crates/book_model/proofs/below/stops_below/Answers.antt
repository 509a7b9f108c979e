use Rattle.book_model.proofs.below.stops_below.Goals as goal

pub returns : goal.returns
returns c = record {
  fit = c.a_file_with_a_header_is_sound_or_needs_repair.ensures.fit;
  dirty = c.a_file_with_a_header_is_sound_or_needs_repair.ensures.dirty_is_sound;
  unseen = c.what_lies_outside_the_segments_that_count_is_not_seen.ensures.seen;
  bodies = c.a_flush_leaves_each_key_its_old_or_its_new_objects.ensures.bodies;
  opening = c.a_flush_leaves_each_key_its_old_or_its_new_objects.ensures.opening;
  closing = c.a_flush_leaves_each_key_its_old_or_its_new_objects.ensures.closing;
}
