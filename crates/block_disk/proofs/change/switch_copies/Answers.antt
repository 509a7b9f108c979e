use Rattle.std.specs.Prelude.{not, true, false}
use Rattle.std.proofs.lemmas.Result.{on_ok_weaker}
use Rattle.host_model.specs.Images.{images_weaker, images_then}
use Rattle.host_model.specs.Tearing.{changes_then}
use Rattle.block_disk.specs.Copies.{HasEither, TearsGate, WritesGate, IsReady, IsCurrent}
use Rattle.block_disk.proofs.Telling.{changes_known}
use Rattle.block_disk.proofs.Switching.{BothOpen, either_by_opening, opened_then, either_by_closing, switched_then}
use Rattle.block_disk.proofs.change.switch_copies.Goals as goal

pub returns-in_err-write_gate-clause-any_moment : goal.returns-in_err-write_gate-clause-any_moment
returns-in_err-write_gate-clause-any_moment g c old next f told ready =
    let s = c.args.second in
    images_weaker (TearsGate (not s) f) (HasEither old next f) (g.H.Host.shows c.args.host.now) (g.H.Host.shows c.write_gate.new.host)
    (λ z t. either_by_opening s old next f z ready t) (c.in_err-write_gate.ensures.any_moment f told)

pub returns-in_err-write_gate-clause-file : goal.returns-in_err-write_gate-clause-file
returns-in_err-write_gate-clause-file g c old next known =
    let s = c.args.second in
    changes_known (IsReady s old next) (TearsGate (not s)) (HasEither old next) (g.H.Host.shows c.args.host.now).file
    (g.H.Host.shows c.write_gate.new.host).file (λ x z r t. either_by_opening s old next x z r t) known c.in_err-write_gate.ensures.file

pub returns-clause-any_moment : goal.returns-clause-any_moment
returns-clause-any_moment g c old next f told ready =
    let s = c.args.second in
    let e = c.in_ok-write_gate.ensures in
    images_then (TearsGate (not s)) (WritesGate (not s) true) (TearsGate s) (HasEither old next) (g.H.Host.shows c.args.host.now)
    (g.H.Host.shows c.write_gate.new.host) (g.H.Host.shows c.write_gate-2.new.host) f told e.only_disk.said
    (λ z t. either_by_opening s old next f z ready t)
    (λ y z w t. either_by_closing s old next f y z (opened_then s old next f y ready w) t)
    e.written (e.any_moment f told) c.write_gate-2.ensures.any_moment

pub returns-clause-file : goal.returns-clause-file
returns-clause-file g c old next known =
    let s = c.args.second in
    let a = (g.H.Host.shows c.args.host.now).file in
    let b = (g.H.Host.shows c.write_gate.new.host).file in
    changes_then (BothOpen s old next) (TearsGate s) (HasEither old next) a b (g.H.Host.shows c.write_gate-2.new.host).file
    (λ x y z p t. either_by_closing s old next x y z p t)
    (changes_known (IsReady s old next) (WritesGate (not s) true) (BothOpen s old next) a b (λ x y r w. opened_then s old next x y r w) known
    c.in_ok-write_gate.ensures.written) c.write_gate-2.ensures.file

pub returns-clause-switched : goal.returns-clause-switched
returns-clause-switched g c =
    let s = c.args.second in
    let a = (g.H.Host.shows c.args.host.now).file in
    let b = (g.H.Host.shows c.write_gate.new.host).file in
    on_ok_weaker c.write_gate-2.result (λ w old next known.
    changes_then (BothOpen s old next) (WritesGate s false) (IsCurrent (not s) next) a b (g.H.Host.shows c.write_gate-2.new.host).file
    (λ x y z p v. switched_then s old next x y z p v)
    (changes_known (IsReady s old next) (WritesGate (not s) true) (BothOpen s old next) a b (λ x y r v. opened_then s old next x y r v) known
    c.in_ok-write_gate.ensures.written) w) c.write_gate-2.ensures.written
