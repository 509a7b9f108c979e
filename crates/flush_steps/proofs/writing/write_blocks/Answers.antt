use Rattle.std.proofs.Common.{arith}
use Rattle.flush_steps.proofs.Counted.{bodies_at_most, olds_at_most}
use Rattle.flush_steps.proofs.writing.write_blocks.Goals as goal

pub returns-clause-clock : goal.returns-clause-clock
returns-clause-clock g c =
    omega (arith, c.write_bodies.ensures.clock, c.switch_gates.ensures.clock, bodies_at_most c.args.cache.now, olds_at_most c.args.cache.now)
