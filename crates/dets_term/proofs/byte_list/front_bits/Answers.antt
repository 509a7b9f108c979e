use Rattle.std.proofs.Common.{arith}
use Rattle.dets_term.proofs.Cleared.{front-kept}
use Rattle.dets_term.proofs.byte_list.front_bits.Goals as goal

pub returns-clause-kept : goal.returns-clause-kept
returns-clause-kept c = front-kept c.args.count c.args.byte (omega arith) c.requires.some c.requires.all
