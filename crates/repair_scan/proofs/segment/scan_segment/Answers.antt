use Rattle.repair_scan.specs.Progress.{units_with}
use Rattle.repair_scan.proofs.segment.scan_segment.Goals as goal

pub returns-clause-goes_on : goal.returns-clause-goes_on
returns-clause-goes_on g c f told segments l p =
    c.in_ok-judge_units.ensures.goes_on (units_with c.args.head.now segments f) (c.in_ok-read_segment.ensures.given f told c.args.head.now segments l) p
