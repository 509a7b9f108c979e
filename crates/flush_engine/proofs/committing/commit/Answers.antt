use Rattle.std.proofs.Common.{◌≡◌, true, sym, ap, ◌∙◌, subst}
use Rattle.std.proofs.lemmas.List.{nil_from_length}
use Rattle.host_model.specs.Tearing.{told_before}
use Rattle.buddy_space.specs.SpaceState.{SpaceState, is_free_run, settling}
use Rattle.buddy_space.proofs.States.{settled_is_free}
use Rattle.flush_engine.specs.declared.book.Book.{Book as KeptBook}
use Rattle.flush_engine.specs.Meaning.{book_of}
use Rattle.flush_engine.specs.Flushed.{FlushesLedger, IsWritten}
use Rattle.flush_engine.proofs.Committed.{changes_at}
use Rattle.flush_engine.proofs.Finished.{none_deferred, settles_nothing, ledger_as_it_is, deferred_are_shut, ledger_flushed}
use Rattle.flush_engine.proofs.committing.commit.Goals as goal

pub returns-then-segments-book-clause-free : goal.returns-then-segments-book-clause-free
returns-then-segments-book-clause-free g c = λ r a.
    absurd (none_deferred (book_of c.args.book.now) r c.requires.order (nil_from_length _ (sym c.len.ensures.len ∙ c.if-len-eq0.true)) a)

pub returns-then-segments-book-clause-shut : goal.returns-then-segments-book-clause-shut
returns-then-segments-book-clause-shut g c = λ x told r a.
    absurd (none_deferred (book_of c.args.book.now) r c.requires.order (nil_from_length _ (sym c.len.ensures.len ∙ c.if-len-eq0.true)) a)

pub returns-then-segments-book-clause-space : goal.returns-then-segments-book-clause-space
returns-then-segments-book-clause-space g c =
    settles_nothing c.args.book.now c.requires.order (nil_from_length _ (sym c.len.ensures.len ∙ c.if-len-eq0.true))

pub returns-then-segments-book-clause-ledger : goal.returns-then-segments-book-clause-ledger
returns-then-segments-book-clause-ledger g c =
    ledger_as_it_is c.what_a_flush_leaves.ensures (book_of c.args.book.now) (g.H.Host.shows c.args.host.now).file
    (nil_from_length _ (sym c.len.ensures.len ∙ c.if-len-eq0.true))
    (sym c.segments-segments.ensures.segments ∙ c.if-segments-book.true)

pub returns-clause-free : goal.returns-clause-free
returns-clause-free g c = λ r a.
    subst (λ (s : SpaceState). is_free_run s r ≡ true) (sym (c.settle.ensures.settled ∙ ap settling c.flush.ensures.space))
    (settled_is_free c.args.book.now.space r c.segments-segments.ensures.parted a)

pub returns-clause-shut : goal.returns-clause-shut
returns-clause-shut g c = λ x told.
    let t = told_before (IsWritten (book_of c.args.book.now) c.flush.new.book.place) (g.H.Host.shows c.args.host.now).file
    (g.H.Host.shows c.flush.new.host).file x c.in_ok-flush.ensures.written told in
    deferred_are_shut c.what_a_flush_leaves.ensures c.args.book.now c.flush.new.book.place x c.segments-segments.ensures.parted t.2.of_file

pub returns-clause-ledger : goal.returns-clause-ledger
returns-clause-ledger g c =
    let new : KeptBook = record {
      place = c.flush.new.book.place;
      space = c.settle.new.self;
      directory = c.flush.new.book.directory;
      cache = c.clear.new.self;
    } in
    changes_at (IsWritten (book_of c.args.book.now) new.place) (FlushesLedger (book_of c.args.book.now) (book_of new))
    (g.H.Host.shows c.args.host.now).file (g.H.Host.shows c.flush.new.host).file
    (λ x z told w. ledger_flushed c.args.book.now new x z (c.settle.ensures.settled ∙ ap settling c.flush.ensures.space)
    c.flush.ensures.directory c.clear.ensures w.ledger)
    c.in_ok-flush.ensures.written
