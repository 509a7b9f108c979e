use Rattle.std.proofs.Common.{◌≤◌, ◌^◌, arith}
use Rattle.std.proofs.Math.Pow.{pow_mono}
use Rattle.buddy_space.proofs.marks.size_of.Goals as goal

pub returns-clause-most : goal.returns-clause-most
returns-clause-most c = let few : 2 ^ c.args.exp ≤ 2 ^ 12 = pow_mono c.requires in omega (arith, few)
