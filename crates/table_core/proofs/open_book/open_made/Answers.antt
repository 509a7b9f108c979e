use Rattle.std.proofs.Common.{◌∙◌, sym, ap, subst}
use Rattle.file_model.specs.declared.head.Head.{Head}
use Rattle.flush_engine.specs.Meaning.{book_of}
use Rattle.table_core.specs.Answering.{IsOpenedTo}
use Rattle.table_core.proofs.MadeBook.{all_there, none_rejected, no_entries, opened_made, images_making}
use Rattle.table_core.proofs.open_book.open_made.Goals as goal

pub returns-clause-any_moment : goal.returns-clause-any_moment
returns-clause-any_moment g c f told =
    images_making (g.H.Host.shows c.args.host.now) (g.H.Host.shows c.make.new.host) f (g.met.H.Host.coherent c.args.host.now)
    (c.requires.empty f told) c.make.ensures.tearing

pub returns-clause-opened : goal.returns-clause-opened
returns-clause-opened g c =
    let b = c.in_ok-opened_book.field-0 in
    let q = c.in_ok-place.place in
    let head = c.in_ok-place.ensures.head ∙ c.new_head.ensures in
    let none = ap (λ (h : Head). h.segments) head in
    record {
      told = λ f told.
          let t = c.make.ensures.tearing.file.told f told in
          let made = opened_made c.args.options.now q t.0 (book_of b) head c.in_ok-opened_book.ensures.place
          c.in_ok-opened_book.ensures.segments c.in_ok-opened_book.ensures.waits
          (c.in_ok-opened_book.ensures.of_file t.0 (c.in_ok-place.ensures.found t.0 t.1) (all_there q.head t.0 none)
          (none_rejected q.head t.0 none) (no_entries q.head t.0 none _ c.new.ensures)) in
          (t.0, t.1, subst (λ x. IsOpenedTo c.args.options.now (book_of b) x t.0) (sym (c.requires.empty f told)) made);
      untold = c.make.ensures.tearing.file.untold;
    }
