use Rattle.std.proofs.Common.{arith}
use Rattle.dets_term.specs.Building.{joined_or_memory}
use Rattle.text_nest.proofs.Closings.{length-joined}
use Rattle.text_nest.proofs.closing.joined.Goals as goal

pub within_limits-requires : goal.within_limits-requires
within_limits-requires c = joined_or_memory c.args.parts c.args.tail c.list_with_tail.result
    (omega (arith, length-joined c.args.parts c.args.tail, c.requires.parts.1, c.requires.tail.light)) c.requires.parts.0 c.requires.tail.shallow
    c.list_with_tail.ensures
