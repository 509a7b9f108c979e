use Rattle.std.proofs.Common.{◌∙◌, arith}
use Rattle.repair_scan.specs.Progress.{units_with}
use Rattle.repair_scan.proofs.Ends.{all_entries, all_rejects}
use Rattle.repair_scan.proofs.scanning.scan_segments.Goals as goal

pub returns-clause-entries : goal.returns-clause-entries
returns-clause-entries g c f told =
    c.into_found.ensures.entries
    ∙ all_entries c.args.head.now (units_with c.args.head.now c.args.segments f) _ c.loop-segment.judge (omega arith) (c.loop-segment.invariant.judged f told)

pub returns-clause-rejects : goal.returns-clause-rejects
returns-clause-rejects g c f told =
    c.into_found.ensures.rejects
    ∙ all_rejects c.args.head.now (units_with c.args.head.now c.args.segments f) _ c.loop-segment.judge (omega arith) (c.loop-segment.invariant.judged f told)
