use Rattle.std.proofs.lemmas.Result.{on_ok_weaker}
use Rattle.flush_engine.specs.Meaning.{book_of}
use Rattle.table_core.proofs.ClosedBook.{closes, images_closing, keeps_ledger}
use Rattle.table_core.proofs.closing.close_book.Goals as goal

pub returns-clause-closed : goal.returns-clause-closed
returns-clause-closed g c =
    on_ok_weaker c.mark_closed.result (closes c.where_nothing_waits_the_table_is_that_of_the_file.ensures.alone (book_of c.args.book)
    (book_of c.flush.new.book) (g.H.Host.shows c.args.host.now).file (g.H.Host.shows c.flush.new.host).file c.in_ok-flush.ensures.waits
    c.in_ok-flush.ensures.holds (g.H.Host.shows c.mark_closed.new.host).file) c.mark_closed.ensures.closed

pub returns-clause-ledger : goal.returns-clause-ledger
returns-clause-ledger g c =
    on_ok_weaker c.mark_closed.result (keeps_ledger (book_of c.args.book) (book_of c.flush.new.book) (g.H.Host.shows c.args.host.now).file
    (g.H.Host.shows c.flush.new.host).file (g.H.Host.shows c.mark_closed.new.host).file c.in_ok-flush.ensures.ledger) c.mark_closed.ensures.closed

pub returns-clause-any_moment : goal.returns-clause-any_moment
returns-clause-any_moment g c f told t st =
    images_closing c.where_nothing_waits_the_table_is_that_of_the_file.ensures.alone (book_of c.args.book) (book_of c.flush.new.book)
    (g.H.Host.shows c.args.host.now) (g.H.Host.shows c.flush.new.host) (g.H.Host.shows c.mark_closed.new.host) c.in_ok-flush.ensures.waits
    c.in_ok-flush.ensures.holds c.flush.ensures.file c.flush.ensures.only_disk.said c.mark_closed.ensures.any_moment f told t st
    (c.flush.ensures.any_moment f told t st)
