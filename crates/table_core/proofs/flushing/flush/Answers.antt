use Rattle.host_model.specs.Images.{images_weaker}
use Rattle.book_model.specs.Stopped.{IsStopped}
use Rattle.flush_engine.specs.Meaning.{book_of}
use Rattle.store_model.specs.Stores.{table_with, IsBetween}
use Rattle.table_core.proofs.Flushed.{holds_on_ok}
use Rattle.table_core.proofs.flushing.flush.Goals as goal

pub returns-clause-holds : goal.returns-clause-holds
returns-clause-holds g c =
    holds_on_ok c.a_flush_leaves_the_table_of_a_book.ensures (book_of c.args.book.now) (book_of c.commit.new.book)
    (g.H.Host.shows c.args.host.now).file (g.H.Host.shows c.commit.new.host).file c.commit.result c.commit.ensures.head c.commit.ensures.of_file
    c.commit.ensures.waits c.commit.ensures.objects

pub returns-clause-any_moment : goal.returns-clause-any_moment
returns-clause-any_moment g c f told t st =
    let b = book_of c.args.book.now in
    images_weaker (IsStopped b f) (IsBetween f (table_with b.place.head f) t) (g.H.Host.shows c.args.host.now) (g.H.Host.shows c.commit.new.host)
    (λ image stop. c.a_stop_leaves_the_file_or_the_table.ensures f image b t st stop) (c.commit.ensures.any_moment f told)

pub returns-clause-file : goal.returns-clause-file
returns-clause-file g c = record {
  told = λ f told.
      let t = c.commit.ensures.file.told f told in
      (t.0, t.1, λ table st. c.a_stop_leaves_the_file_or_the_table.ensures f t.0 (book_of c.args.book.now) table st t.2);
  untold = c.commit.ensures.file.untold;
}
