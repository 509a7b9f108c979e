use Rattle.std.proofs.Common.{arith}
use Rattle.key_block.proofs.Exponents.{least_exponent}
use Rattle.key_block.proofs.packing.exponent.Goals as goal

pub returns-clause-value : goal.returns-clause-value
returns-clause-value c =
    least_exponent c.args.length 12 (c.a_payload_has_room_in_the_least_block.ensures.room c.args.length)
    (c.a_payload_has_room_in_the_least_block.ensures.no_smaller_one c.args.length) (omega arith) (λ j l. c.loop-exp.invariant j (omega arith))
