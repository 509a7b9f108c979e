use Rattle.std.proofs.Common.{◌≤◌, ◌^◌, arith}
use Rattle.std.proofs.Math.Pow.{pow_mono}
use Rattle.repair_scan.proofs.standing.payload_behind.Goals as goal

pub slice_bounds-result-end : goal.slice_bounds-result-end
slice_bounds-result-end c =
    let small : 2 ^ c.args.exp ≤ 2 ^ 12 = pow_mono {i = c.args.exp} {j = 12} c.requires.exponent in
    omega (arith, c.gates_and_units_do_not_meet.ensures.aligned 12 c.args.unit c.args.exp small c.requires.aligned)
