use Rattle.host_model.specs.Images.{images_of_writes}
use Rattle.host_model.specs.Tearing.{tearing_synced}
use Rattle.host_model.specs.Writes.{ranges_of}
use Rattle.host_model.proofs.runs.write_all_and_sync.Goals as goal

pub returns-in_err-write_all-clause-images : goal.returns-in_err-write_all-clause-images
returns-in_err-write_all-clause-images g c settled f told =
    images_of_writes (ranges_of (g.W.Writes.list c.args.writes.now)) (g.H.Host.shows c.args.host.now) (g.H.Host.shows c.write_all.new.host) f
    (g.met.H.Host.coherent c.args.host.now) settled told c.in_err-write_all.ensures.tearing.leaves

pub returns-clause-tearing : goal.returns-clause-tearing
returns-clause-tearing g c =
    let e = c.sync.ensures in
    tearing_synced (ranges_of (g.W.Writes.list c.args.writes.now)) (g.H.Host.shows c.args.host.now) (g.H.Host.shows c.write_all.new.host)
    (g.H.Host.shows c.sync.new.self) c.in_ok-write_all.ensures.tearing e.goes e.file e.said e.reads e.never_falls e.out_faults

pub returns-clause-images : goal.returns-clause-images
returns-clause-images g c settled f told =
    let e = c.sync.ensures in
    let ranges = ranges_of (g.W.Writes.list c.args.writes.now) in
    let old = g.H.Host.shows c.args.host.now in
    let new = g.H.Host.shows c.sync.new.self in
    let tearing = tearing_synced ranges old (g.H.Host.shows c.write_all.new.host) new c.in_ok-write_all.ensures.tearing e.goes e.file e.said e.reads
    e.never_falls e.out_faults in
    images_of_writes ranges old new f (g.met.H.Host.coherent c.args.host.now) settled told tearing.leaves
