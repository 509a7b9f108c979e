use Rattle.std.proofs.Common.{◌≡◌, ◌∙◌, []}
use Rattle.host_model.specs.Disk.{Changes}
use Rattle.host_model.specs.Leaves.{settled_by_rest}
use Rattle.flush_engine.specs.declared.book.Book.{Book as KeptBook}
use Rattle.flush_engine.specs.Meaning.{book_of}
use Rattle.table_core.specs.Answering.{IsOpenedTo}
use Rattle.table_core.specs.Repairing.{IsLoaded}
use Rattle.table_core.proofs.OpenedFile.{both_ok, opened_file, images_behind_rest, images_opening}
use Rattle.table_core.proofs.open_book.open_book.Goals as goal

pub returns-clause-opened : goal.returns-clause-opened
returns-clause-opened g c =
    let options = c.args.options.now in
    let place = c.in_ok-read.read.place in
    let old = g.H.Host.shows c.args.host.now in
    let mid = g.H.Host.shows c.read_file.new.host in
    let new = g.H.Host.shows c.load.new.host in
    let same = c.read_file.ensures.rests.file ∙ c.len.ensures.rests.file in
    both_ok (λ (b : KeptBook). Changes (IsLoaded place.head (book_of b)) mid.file new.file) (λ b. b.cache ≡ [])
    (λ b. Changes (IsOpenedTo options (book_of b)) old.file new.file) c.load.result
    (λ b loaded waits. record {
      told = λ f told.
          let t = loaded.told f (same ∙ told) in
          let read = (c.in_ok-read.ensures.found f (c.len.ensures.rests.file ∙ told)).place_is in (
            t.0,
            t.1,
            opened_file options place.head f t.0 (book_of b)
                (λ none. c.if-len-eq0.false (c.in_ok-len.ensures.length f told ∙ none))
                (c.a_header_is_located_where_it_is_read.ensures.head f place read).0 t.2 waits,
          );
      untold = λ none. loaded.untold (same ∙ none);
    })
    c.load.ensures.loaded c.load.ensures.waits

pub returns-clause-any_moment : goal.returns-clause-any_moment
returns-clause-any_moment g c settled f told =
    let place = c.in_ok-read.read.place in
    let old = g.H.Host.shows c.args.host.now in
    let first = g.H.Host.shows c.len.new.self in
    let mid = g.H.Host.shows c.read_file.new.host in
    let read = (c.in_ok-read.ensures.found f (c.len.ensures.rests.file ∙ told)).place_is in
    images_behind_rest _ old first (g.H.Host.shows c.load.new.host) c.len.ensures.rests
    (images_opening f place.head first mid (g.H.Host.shows c.load.new.host)
    (λ none. c.if-len-eq0.false (c.in_ok-len.ensures.length f told ∙ none))
    (c.a_header_is_located_where_it_is_read.ensures.head f place read).0 c.read_file.ensures.rests
    (c.load.ensures.any_moment
    (settled_by_rest first mid (settled_by_rest old first settled c.len.ensures.rests) c.read_file.ensures.rests) f
    (c.read_file.ensures.rests.file ∙ c.len.ensures.rests.file ∙ told)))
