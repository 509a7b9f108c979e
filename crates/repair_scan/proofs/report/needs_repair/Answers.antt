use Rattle.std.proofs.Common.{◌≡◌, ◌∙◌}
use Rattle.repair_scan.proofs.Reported.{needs_by}
use Rattle.repair_scan.proofs.report.needs_repair.Goals as goal

pub returns : goal.returns
returns c f found are =
    c.is_out_of_order.ensures
    ∙ needs_by f c.args.place.now c.args.rejects.now (c.a_header_is_located_where_it_is_read.ensures.head f c.args.place.now found).2 are
