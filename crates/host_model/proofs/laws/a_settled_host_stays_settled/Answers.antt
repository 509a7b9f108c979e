use Rattle.host_model.specs.Leaves.{settled_by_rest, settled_by_put}
use Rattle.host_model.proofs.laws.a_settled_host_stays_settled.Goals as goal

pub returns-clause-reading : goal.returns-clause-reading
returns-clause-reading g c old new settled rests = settled_by_rest (g.H.Host.shows old) (g.H.Host.shows new) settled rests

pub returns-clause-output : goal.returns-clause-output
returns-clause-output g c piece old new settled goes file =
    settled_by_put piece (g.H.Host.shows old) (g.H.Host.shows new) settled goes file
