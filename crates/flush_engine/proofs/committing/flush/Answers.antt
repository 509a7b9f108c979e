use Rattle.std.proofs.lemmas.Result.{on_ok_weaker}
use Rattle.flush_engine.specs.Meaning.{book_of}
use Rattle.flush_engine.proofs.Committed.{news_whole, olds_whole, stopped_at, stopped_behind, written_behind, images_prepared, images_written}
use Rattle.flush_engine.proofs.committing.flush.Goals as goal

pub write_blocks-requires-clause-new_whole : goal.write_blocks-requires-clause-new_whole
write_blocks-requires-clause-new_whole g c =
    news_whole c.what_a_flush_leaves.ensures (book_of c.args.book.now) c.prepare.new.place c.segments-segments.result c.segments-segments.ensures.segments (g.H.Host.shows c.args.host.now).file
    (g.H.Host.shows c.prepare.new.host).file c.requires.of_file c.in_ok-prepare.ensures.prepared

pub write_blocks-requires-clause-old_whole : goal.write_blocks-requires-clause-old_whole
write_blocks-requires-clause-old_whole g c =
    olds_whole c.what_a_flush_leaves.ensures (book_of c.args.book.now) c.prepare.new.place c.segments-segments.result c.segments-segments.ensures.segments (g.H.Host.shows c.args.host.now).file
    (g.H.Host.shows c.prepare.new.host).file c.requires.of_file c.in_ok-prepare.ensures.prepared

pub returns-in_err-prepare-clause-any_moment : goal.returns-in_err-prepare-clause-any_moment
returns-in_err-prepare-clause-any_moment g c f told =
    images_prepared c.what_a_flush_leaves.ensures (book_of c.args.book.now) c.prepare.new.place c.segments-segments.result c.segments-segments.ensures.segments (g.H.Host.shows c.args.host.now)
    (g.H.Host.shows c.prepare.new.host) f (c.requires.of_file f told) (c.prepare.ensures.any_moment f told)

pub returns-in_err-prepare-clause-file : goal.returns-in_err-prepare-clause-file
returns-in_err-prepare-clause-file g c =
    stopped_at c.what_a_flush_leaves.ensures (book_of c.args.book.now) c.prepare.new.place c.segments-segments.result c.segments-segments.ensures.segments (g.H.Host.shows c.args.host.now).file
    (g.H.Host.shows c.prepare.new.host).file c.requires.of_file c.prepare.ensures.file

pub returns-clause-any_moment : goal.returns-clause-any_moment
returns-clause-any_moment g c f told =
    images_written c.what_a_flush_leaves.ensures (book_of c.args.book.now) c.prepare.new.place c.segments-segments.result c.segments-segments.ensures.segments (g.H.Host.shows c.args.host.now)
    (g.H.Host.shows c.prepare.new.host) (g.H.Host.shows c.write_blocks.new.host) f told c.prepare.ensures.only_disk.said
    (c.requires.of_file f told) c.in_ok-prepare.ensures.prepared (c.prepare.ensures.any_moment f told) c.write_blocks.ensures.any_moment

pub returns-clause-file : goal.returns-clause-file
returns-clause-file g c =
    stopped_behind c.what_a_flush_leaves.ensures (book_of c.args.book.now) c.prepare.new.place c.segments-segments.result c.segments-segments.ensures.segments (g.H.Host.shows c.args.host.now).file
    (g.H.Host.shows c.prepare.new.host).file c.requires.of_file (g.H.Host.shows c.write_blocks.new.host).file c.in_ok-prepare.ensures.prepared
    c.write_blocks.ensures.file

pub returns-clause-written : goal.returns-clause-written
returns-clause-written g c =
    on_ok_weaker c.write_blocks.result (λ w.
    written_behind c.what_a_flush_leaves.ensures (book_of c.args.book.now) c.prepare.new.place c.segments-segments.result c.segments-segments.ensures.segments (g.H.Host.shows c.args.host.now).file
    (g.H.Host.shows c.prepare.new.host).file c.requires.of_file (g.H.Host.shows c.write_blocks.new.host).file c.in_ok-prepare.ensures.prepared w)
    c.write_blocks.ensures.written
