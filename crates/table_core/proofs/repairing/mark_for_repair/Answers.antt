use Rattle.std.proofs.Common.{◌≡◌, Ok}
use Rattle.host_model.specs.Images.{images_weaker}
use Rattle.file_model.specs.Header.{located}
use Rattle.block_disk.specs.Copies.{HasEither}
use Rattle.block_disk.proofs.Telling.{changes_known}
use Rattle.book_model.specs.Stopped.{dirtied}
use Rattle.store_model.specs.Keeping.{Keeps}
use Rattle.table_core.proofs.Marked.{marked, keeps, keeps_itself}
use Rattle.table_core.proofs.repairing.mark_for_repair.Goals as goal

pub returns-in_err-mark_dirty-clause-any_moment : goal.returns-in_err-mark_dirty-clause-any_moment
returns-in_err-mark_dirty-clause-any_moment g c f told =
    let place = c.args.place.now in
    images_weaker (HasEither place.head (dirtied place.head place.whole) f) (Keeps place.head f)
    (g.H.Host.shows c.args.host.now) (g.H.Host.shows c.mark_dirty.new.host)
    (keeps c.what_a_repair_leaves.ensures place f (c.requires.place f told)) (c.mark_dirty.ensures.any_moment f told)

pub returns-in_ok-mark_dirty-clause-any_moment : goal.returns-in_ok-mark_dirty-clause-any_moment
returns-in_ok-mark_dirty-clause-any_moment g c f told =
    let place = c.args.place.now in
    images_weaker (HasEither place.head (dirtied place.head place.whole) f) (Keeps place.head f)
    (g.H.Host.shows c.args.host.now) (g.H.Host.shows c.mark_dirty.new.host)
    (keeps c.what_a_repair_leaves.ensures place f (c.requires.place f told)) (c.mark_dirty.ensures.any_moment f told)

pub returns-in_err-mark_dirty-clause-file : goal.returns-in_err-mark_dirty-clause-file
returns-in_err-mark_dirty-clause-file g c =
    let place = c.args.place.now in
    changes_known (λ f. located f ≡ Ok place) (HasEither place.head (dirtied place.head place.whole)) (Keeps place.head)
    (g.H.Host.shows c.args.host.now).file (g.H.Host.shows c.mark_dirty.new.host).file
    (λ f z found either. keeps c.what_a_repair_leaves.ensures place f found z either) c.requires.place c.mark_dirty.ensures.file

pub returns-in_ok-mark_dirty-clause-file : goal.returns-in_ok-mark_dirty-clause-file
returns-in_ok-mark_dirty-clause-file g c =
    let place = c.args.place.now in
    changes_known (λ f. located f ≡ Ok place) (HasEither place.head (dirtied place.head place.whole)) (Keeps place.head)
    (g.H.Host.shows c.args.host.now).file (g.H.Host.shows c.mark_dirty.new.host).file
    (λ f z found either. keeps c.what_a_repair_leaves.ensures place f found z either) c.requires.place c.mark_dirty.ensures.file

pub returns-in_ok-mark_dirty-clause-marked : goal.returns-in_ok-mark_dirty-clause-marked
returns-in_ok-mark_dirty-clause-marked g c = record {
  told = λ f told.
      let t = c.mark_dirty.ensures.file.told f told in (
        t.0,
        t.1,
        marked c.what_a_repair_leaves.ensures c.args.place.now f (c.requires.place f told) t.0 t.2.outside
            c.mark_dirty.new.place (c.in_ok-mark_dirty.ensures.found t.0 t.1) c.in_ok-mark_dirty.ensures.head,
      );
  untold = c.mark_dirty.ensures.file.untold;
}

pub returns-else-place-counted-clause-file : goal.returns-else-place-counted-clause-file
returns-else-place-counted-clause-file g c = record {
  told = λ f told. (f, told, keeps_itself c.what_a_repair_leaves.ensures c.args.place.now f (c.requires.place f told));
  untold = λ none. none;
}
