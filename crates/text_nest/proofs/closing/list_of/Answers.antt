use Rattle.std.proofs.Common.{arith}
use Rattle.dets_term.specs.Building.{list_or_memory}
use Rattle.text_nest.proofs.closing.list_of.Goals as goal

pub within_limits-requires : goal.within_limits-requires
within_limits-requires c = list_or_memory c.args.parts c.list.result (omega (arith, c.requires.1)) c.requires.0 c.list.ensures
