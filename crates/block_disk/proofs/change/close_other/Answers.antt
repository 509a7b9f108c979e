use Rattle.std.specs.Prelude.{not, false}
use Rattle.std.proofs.lemmas.Result.{on_ok_weaker}
use Rattle.host_model.specs.Images.{images_weaker}
use Rattle.block_disk.specs.Copies.{HasHeader, TearsGate, WritesGate, Stands, IsCurrent}
use Rattle.block_disk.proofs.Telling.{changes_known}
use Rattle.block_disk.proofs.Switching.{header_here, current_here, kept_by_closing, closed_then}
use Rattle.block_disk.proofs.change.close_other.Goals as goal

pub returns-then-not-place-clause-file : goal.returns-then-not-place-clause-file
returns-then-not-place-clause-file g c =
    let p = c.args.place.now in
    record { told = λ x e. (x, e, header_here p.second p.other_gate p.head x (c.requires.stands x e)); untold = λ e. e }

pub returns-clause-any_moment : goal.returns-clause-any_moment
returns-clause-any_moment g c f told =
    let p = c.args.place.now in
    images_weaker (TearsGate (not p.second) f) (HasHeader p.head f) (g.H.Host.shows c.args.host.now) (g.H.Host.shows c.write_gate.new.host)
    (λ z t. kept_by_closing p.second p.other_gate p.head f z c.if-not-place.false (c.requires.stands f told) t) (c.write_gate.ensures.any_moment f told)

pub returns-clause-file : goal.returns-clause-file
returns-clause-file g c =
    let p = c.args.place.now in
    changes_known (Stands p.second p.other_gate p.head) (TearsGate (not p.second)) (HasHeader p.head) (g.H.Host.shows c.args.host.now).file
    (g.H.Host.shows c.write_gate.new.host).file
    (λ x z st t. kept_by_closing p.second p.other_gate p.head x z c.if-not-place.false st t) c.requires.stands c.write_gate.ensures.file

pub returns-clause-closed : goal.returns-clause-closed
returns-clause-closed g c =
    let p = c.args.place.now in
    on_ok_weaker c.write_gate.result (λ w. changes_known (Stands p.second p.other_gate p.head) (WritesGate (not p.second) false)
    (IsCurrent p.second p.head) (g.H.Host.shows c.args.host.now).file (g.H.Host.shows c.write_gate.new.host).file
    (λ x z st v. closed_then p.second p.other_gate p.head x z st v) c.requires.stands w) c.write_gate.ensures.written

pub returns-then-not-place-clause-closed : goal.returns-then-not-place-clause-closed
returns-then-not-place-clause-closed g c =
    let p = c.args.place.now in
    record { told = λ x e. (x, e, current_here p.second p.other_gate p.head x c.if-not-place.true (c.requires.stands x e)); untold = λ e. e }
