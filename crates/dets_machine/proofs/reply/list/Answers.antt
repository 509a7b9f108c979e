use Rattle.std.proofs.Common.{length, arith}
use Rattle.dets_term.specs.TermValue.{chain, nil}
use Rattle.dets_term.specs.Limits.{built_or_memory}
use Rattle.dets_term.specs.Parts.{parts_depth-chain}
use Rattle.dets_machine.proofs.reply.list.Goals as goal

pub within_limits-requires : goal.within_limits-requires
within_limits-requires c =
    built_or_memory (length c.args.found) (chain c.args.found nil) c.list.result (omega (arith, c.requires.few))
    (omega (arith, c.requires.shallow, parts_depth-chain c.args.found)) c.list.ensures
