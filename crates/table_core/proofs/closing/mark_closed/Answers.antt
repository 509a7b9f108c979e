use Rattle.std.proofs.Common.{◌∙◌, Ok, ap}
use Rattle.host_model.specs.Images.{images_weaker}
use Rattle.block_disk.specs.Copies.{HasEither}
use Rattle.store_model.specs.Keeping.{Keeps}
use Rattle.table_core.specs.Closing.{closed_head}
use Rattle.table_core.proofs.Shut.{shut, keeps_shutting, shut_already}
use Rattle.table_core.proofs.closing.mark_closed.Goals as goal

pub returns-in_err-change_header-clause-any_moment : goal.returns-in_err-change_header-clause-any_moment
returns-in_err-change_header-clause-any_moment g c f told =
    let place = c.args.place.now in
    images_weaker (HasEither place.head (closed_head place.head) f) (Keeps place.head f) (g.H.Host.shows c.args.host.now)
    (g.H.Host.shows c.change_header.new.host)
    (keeps_shutting c.what_a_repair_leaves.ensures place f (c.requires.place f told) (c.requires.whole f told) (c.requires.none f told))
    (c.change_header.ensures.any_moment f told)

pub returns-in_ok-change_header-clause-any_moment : goal.returns-in_ok-change_header-clause-any_moment
returns-in_ok-change_header-clause-any_moment g c f told =
    let place = c.args.place.now in
    images_weaker (HasEither place.head (closed_head place.head) f) (Keeps place.head f) (g.H.Host.shows c.args.host.now)
    (g.H.Host.shows c.change_header.new.host)
    (keeps_shutting c.what_a_repair_leaves.ensures place f (c.requires.place f told) (c.requires.whole f told) (c.requires.none f told))
    (c.change_header.ensures.any_moment f told)

pub returns-in_ok-change_header-clause-closed : goal.returns-in_ok-change_header-clause-closed
returns-in_ok-change_header-clause-closed g c =
    let place = c.args.place.now in
    let laws = c.what_a_repair_leaves.ensures in
    record {
      told = λ f told.
          let t = c.change_header.ensures.file.told f told in
          let head = (laws.located t.0 c.change_header.new.place (c.in_ok-change_header.ensures.found t.0 t.1)).0 in (
            t.0,
            t.1,
            shut laws place f (c.requires.place f told) (c.requires.whole f told) (c.requires.none f told) t.0 t.2.outside
                (head ∙ ap (λ h. Ok h) c.in_ok-change_header.ensures.head),
          );
      untold = c.change_header.ensures.file.untold;
    }

pub returns-else-not-says_closed-clause-closed : goal.returns-else-not-says_closed-clause-closed
returns-else-not-says_closed-clause-closed g c =
    let place = c.args.place.now in
    let says = c.says_closed.ensures (cc c.if-not-says_closed.false) in
    record {
      told = λ f told. (
        f,
        told,
        shut_already c.what_a_repair_leaves.ensures place f (c.requires.place f told) (c.requires.whole f told) (c.requires.none f told) says.0 says.1,
      );
      untold = λ none. none;
    }
