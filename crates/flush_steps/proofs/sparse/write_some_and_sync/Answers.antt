use Rattle.std.proofs.Common.{sym, subst}
use Rattle.host_model.specs.Host.{Settled}
use Rattle.host_model.specs.Tearing.{tearing_synced}
use Rattle.host_model.specs.Writes.{ranges_of}
use Rattle.flush_steps.proofs.Torn.{images_torn}
use Rattle.flush_steps.proofs.sparse.write_some_and_sync.Goals as goal

pub returns-in_err-write_some-clause-any_moment : goal.returns-in_err-write_some-clause-any_moment
returns-in_err-write_some-clause-any_moment g c =
    images_torn (ranges_of (g.W.SparseWrites.list c.args.writes.now)) (g.H.Host.shows c.args.host.now) (g.H.Host.shows c.write_some.new.host)
    (g.met.H.Host.coherent c.args.host.now) c.requires.settled c.in_err-write_some.ensures.tearing

pub returns-in_err-sync-clause-any_moment : goal.returns-in_err-sync-clause-any_moment
returns-in_err-sync-clause-any_moment g c =
    let ranges = ranges_of (g.W.SparseWrites.list c.args.writes.now) in
    let old = g.H.Host.shows c.args.host.now in
    let new = g.H.Host.shows c.sync.new.self in
    let e = c.in_err-sync.ensures in
    images_torn ranges old new (g.met.H.Host.coherent c.args.host.now) c.requires.settled
    (tearing_synced ranges old (g.H.Host.shows c.write_some.new.host) new c.in_ok-write_some.ensures.tearing e.goes e.file e.said e.reads e.never_falls
    e.out_faults)

pub returns-in_ok-sync-clause-any_moment : goal.returns-in_ok-sync-clause-any_moment
returns-in_ok-sync-clause-any_moment g c =
    let ranges = ranges_of (g.W.SparseWrites.list c.args.writes.now) in
    let old = g.H.Host.shows c.args.host.now in
    let new = g.H.Host.shows c.sync.new.self in
    let e = c.in_ok-sync.ensures in
    images_torn ranges old new (g.met.H.Host.coherent c.args.host.now) c.requires.settled
    (tearing_synced ranges old (g.H.Host.shows c.write_some.new.host) new c.in_ok-write_some.ensures.tearing e.goes e.file e.said e.reads e.never_falls
    e.out_faults)

pub returns-else-branch-clause-settled : goal.returns-else-branch-clause-settled
returns-else-branch-clause-settled g c =
    subst (λ h. Settled (g.H.Host.shows h)) (sym (c.in_ok-write_some.ensures.none c.if-branch.false)) c.requires.settled
