use Rattle.std.proofs.Common.{◌≤◌, ◌^◌, arith}
use Rattle.std.proofs.Math.Pow.{pow_mono}
use Rattle.repair_scan.proofs.candidate.run_units.Goals as goal

pub returns-clause-within : goal.returns-clause-within
returns-clause-within c =
    let small : 2 ^ c.args.exp ≤ 2 ^ 12 = pow_mono {i = c.args.exp} {j = 12} c.requires in
    omega arith
