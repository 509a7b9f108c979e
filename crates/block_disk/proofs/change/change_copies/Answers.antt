use Rattle.std.specs.Prelude.{not}
use Rattle.std.proofs.lemmas.Result.{on_ok_weaker}
use Rattle.host_model.specs.Images.{images_then}
use Rattle.host_model.specs.Tearing.{changes_then}
use Rattle.block_disk.specs.Copies.{HasHeader, HasEither, IsReady, IsCurrent, Prepares}
use Rattle.block_disk.proofs.Telling.{known_after}
use Rattle.block_disk.proofs.Switching.{either_of, either_then, current_then}
use Rattle.block_disk.proofs.change.change_copies.Goals as goal

pub returns-clause-any_moment : goal.returns-clause-any_moment
returns-clause-any_moment g c f told =
    let p = c.args.place.now in
    let next = c.args.next.now in
    let e = c.in_ok-prepare.ensures in
    let old = g.H.Host.shows c.args.host.now in
    let mid = g.H.Host.shows c.prepare.new.host in
    let ready = known_after (Prepares p.second p.head next) (IsReady p.second p.head next) old.file mid.file (λ x y q. q.ready) e.prepared in
    images_then (HasHeader p.head) (Prepares p.second p.head next) (HasEither p.head next) (HasEither p.head next) old mid
    (g.H.Host.shows c.switch_copies.new.host) f told e.only_disk.said (λ z q. either_of p.head next f z q)
    (λ y z a q. either_then p.second p.head next f y z a q) e.prepared (e.any_moment f told)
    (λ y is. c.switch_copies.ensures.any_moment p.head next y is (ready y is))

pub returns-clause-file : goal.returns-clause-file
returns-clause-file g c =
    let p = c.args.place.now in
    let next = c.args.next.now in
    let e = c.in_ok-prepare.ensures in
    let old = (g.H.Host.shows c.args.host.now).file in
    let mid = (g.H.Host.shows c.prepare.new.host).file in
    let ready = known_after (Prepares p.second p.head next) (IsReady p.second p.head next) old mid (λ x y q. q.ready) e.prepared in
    changes_then (Prepares p.second p.head next) (HasEither p.head next) (HasEither p.head next) old mid (g.H.Host.shows c.switch_copies.new.host).file
    (λ x y z a q. either_then p.second p.head next x y z a q) e.prepared (c.switch_copies.ensures.file p.head next ready)

pub returns-clause-changed : goal.returns-clause-changed
returns-clause-changed g c =
    let p = c.args.place.now in
    let next = c.args.next.now in
    let e = c.in_ok-prepare.ensures in
    let old = (g.H.Host.shows c.args.host.now).file in
    let mid = (g.H.Host.shows c.prepare.new.host).file in
    let ready = known_after (Prepares p.second p.head next) (IsReady p.second p.head next) old mid (λ x y q. q.ready) e.prepared in
    on_ok_weaker c.switch_copies.result (λ w.
    changes_then (Prepares p.second p.head next) (IsCurrent (not p.second) next) (IsCurrent (not p.second) next) old mid
    (g.H.Host.shows c.switch_copies.new.host).file (λ x y z a q. current_then p.second p.head next x y z a q) e.prepared (w p.head next ready))
    c.switch_copies.ensures.switched
