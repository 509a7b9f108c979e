use Rattle.std.proofs.Common.{[], ◌∷◌, length}
use Rattle.host_model.specs.Disk.{range}
use Rattle.host_model.specs.Images.{images_of_writes}
use Rattle.host_model.specs.Tearing.{tearing_synced}
use Rattle.block_disk.proofs.step.put_lasting.Goals as goal

pub returns-in_err-put_at-clause-images : goal.returns-in_err-put_at-clause-images
returns-in_err-put_at-clause-images g c settled f told =
    images_of_writes (range c.args.at (length c.args.bytes.now) ∷ []) (g.H.Host.shows c.args.host.now) (g.H.Host.shows c.put_at.new.host) f
    (g.met.H.Host.coherent c.args.host.now) settled told c.in_err-put_at.ensures.tearing.leaves

pub returns-clause-images : goal.returns-clause-images
returns-clause-images g c settled f told =
    let e = c.sync.ensures in
    let ranges = range c.args.at (length c.args.bytes.now) ∷ [] in
    let old = g.H.Host.shows c.args.host.now in
    let new = g.H.Host.shows c.sync.new.self in
    let tearing = tearing_synced ranges old (g.H.Host.shows c.put_at.new.host) new c.in_ok-put_at.ensures.tearing e.goes e.file e.said e.reads
    e.never_falls e.out_faults in
    images_of_writes ranges old new f (g.met.H.Host.coherent c.args.host.now) settled told tearing.leaves
