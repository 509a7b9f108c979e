use Rattle.std.proofs.Common.{arith}
use Rattle.etf_codec.proofs.Magnitudes.{part_fits, weight_fits, part_passes}
use Rattle.etf_codec.proofs.big_integer.raised.Goals as goal

pub returns-then-index-ge16 : goal.returns-then-index-ge16
returns-then-index-ge16 c = omega (arith, part_passes c.args.index c.args.digit (omega arith) (omega arith))

pub pow-requires : goal.pow-requires
pow-requires c = weight_fits c.args.index (omega arith)

pub overflow_mul-part : goal.overflow_mul-part
overflow_mul-part c = rw (c.pow.ensures, c.from.ensures) (record { fits = part_fits c.args.index c.args.digit (omega arith) (omega arith) })
