use Rattle.space_model.specs.Sizes.{segment_units}
use Rattle.host_model.specs.Tearing.{tearing_synced}
use Rattle.flush_steps.specs.Added.{added}
use Rattle.flush_steps.proofs.Torn.{images_torn}
use Rattle.flush_steps.proofs.segments.add_segments.Goals as goal

pub returns-clause-any_moment : goal.returns-clause-any_moment
returns-clause-any_moment g c =
    let ranges = added segment_units c.args.from c.args.to in
    let old = g.H.Host.shows c.args.host.now in
    let new = g.H.Host.shows c.sync.new.self in
    let e = c.sync.ensures in
    images_torn ranges old new (g.met.H.Host.coherent c.args.host.now) c.requires.settled
    (tearing_synced ranges old (g.H.Host.shows c.zero_segments.new.host) new c.zero_segments.ensures.tearing e.goes e.file e.said e.reads e.never_falls
    e.out_faults)
