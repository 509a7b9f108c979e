use Rattle.std.proofs.Common.{arith}
use Rattle.dets_term.specs.Building.{tuple_or_memory}
use Rattle.text_nest.proofs.closing.tuple_of.Goals as goal

pub within_limits-requires : goal.within_limits-requires
within_limits-requires c = tuple_or_memory c.args.parts c.tuple.result (omega (arith, c.requires.1)) c.requires.0 c.tuple.ensures
