use Rattle.std.specs.Prelude.{not, ◌≡◌, Ok}
use Rattle.std.proofs.lemmas.Result.{on_ok_weaker}
use Rattle.host_model.specs.Images.{images_then}
use Rattle.host_model.specs.Tearing.{changes_then}
use Rattle.file_model.specs.Header.{body_of, head_in}
use Rattle.block_disk.specs.Copies.{HasHeader, TearsBody, WritesBody, IsCurrent, Prepares}
use Rattle.block_disk.proofs.Switching.{kept_by_body, prepared_then}
use Rattle.block_disk.proofs.change.prepare.Goals as goal

pub returns-clause-any_moment : goal.returns-clause-any_moment
returns-clause-any_moment g c f told =
    let p = c.args.place.now in
    let e = c.in_ok-close_other.ensures in
    images_then (HasHeader p.head) (IsCurrent p.second p.head) (TearsBody (not p.second)) (HasHeader p.head) (g.H.Host.shows c.args.host.now)
    (g.H.Host.shows c.close_other.new.host) (g.H.Host.shows c.write_copy.new.host) f told e.only_disk.said (λ z q. q)
    (λ y z a t. kept_by_body p.second p.head f y z a t) e.closed (e.any_moment f told) c.write_copy.ensures.any_moment

pub returns-clause-file : goal.returns-clause-file
returns-clause-file g c =
    let p = c.args.place.now in
    changes_then (IsCurrent p.second p.head) (TearsBody (not p.second)) (HasHeader p.head) (g.H.Host.shows c.args.host.now).file
    (g.H.Host.shows c.close_other.new.host).file (g.H.Host.shows c.write_copy.new.host).file
    (λ x y z a t. kept_by_body p.second p.head x y z a t) c.in_ok-close_other.ensures.closed c.write_copy.ensures.file

pub returns-clause-prepared : goal.returns-clause-prepared
returns-clause-prepared g c =
    let p = c.args.place.now in
    let next = c.args.next.now in
    let back : head_in (body_of next) ≡ Ok next = c.a_header_that_was_written_is_read.ensures next c.requires.allowed in
    on_ok_weaker c.write_copy.result (λ w. changes_then (IsCurrent p.second p.head) (WritesBody (not p.second) (body_of next))
    (Prepares p.second p.head next) (g.H.Host.shows c.args.host.now).file (g.H.Host.shows c.close_other.new.host).file
    (g.H.Host.shows c.write_copy.new.host).file (λ x y z a v. prepared_then p.second p.head next x y z back a v)
    c.in_ok-close_other.ensures.closed w) c.write_copy.ensures.written
