use Rattle.std.proofs.Common.{arith}
use Rattle.file_model.specs.Header.{units_per_segment}
use Rattle.book_model.specs.Flushing.{bodies_of, old_units}
use Rattle.flush_engine.proofs.below.what_a_flush_leaves.Goals as goal

pub returns : goal.returns
returns c = record {
  follows = c.the_runs_of_a_book_meet_no_block_of_its_file.ensures;
  as_it_is = c.a_file_may_be_left_as_it_is_or_flushed.ensures.as_it_is;
  preparing = c.while_a_file_is_prepared_nothing_is_lost.ensures;
  prepared = c.a_prepared_file_has_its_book.ensures.book;
  stopped_behind = c.a_flush_of_a_prepared_file_is_one_of_the_file.ensures.stopped;
  new_behind = c.a_flush_of_a_prepared_file_is_one_of_the_file.ensures.new;
  new_whole = λ file b r. c.a_file_that_may_be_flushed_has_whole_segments.ensures.new (units_per_segment b.place.head) b.place.head (bodies_of b.cache)
      (old_units b.cache) file (omega arith) (c.a_book_of_a_file_may_be_flushed.ensures file b r.of_file r.segments);
  old_whole = λ file b r. c.a_file_that_may_be_flushed_has_whole_segments.ensures.old (units_per_segment b.place.head) b.place.head (bodies_of b.cache)
      (old_units b.cache) file (omega arith) (c.a_book_of_a_file_may_be_flushed.ensures file b r.of_file r.segments);
  writing = λ old now b r w. c.while_blocks_are_written_each_key_has_its_old_or_its_new_objects.ensures old now b r.of_file r.segments r.dirty w;
  of_flushed = λ file b r. c.after_a_flush_the_book_is_that_of_the_new_file.ensures file b r.of_file r.segments;
  new = λ file b r. c.after_a_flush_each_key_that_waited_has_its_new_objects.ensures file b r.of_file r.segments;
  ledger_as_it_is = c.after_a_flush_the_book_has_the_flushed_ledger.ensures.nothing;
  ledger_prepared = c.a_prepared_file_has_its_book.ensures.ledger;
  ledger_flushed = λ file b l r. c.after_a_flush_the_book_has_the_flushed_ledger.ensures.written file b l r.of_file r.segments;
}
