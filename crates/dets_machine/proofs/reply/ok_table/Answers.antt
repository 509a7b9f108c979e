use Rattle.std.proofs.Common.{arith}
use Rattle.dets_machine.proofs.Words.{chars_ok, chars_table}
use Rattle.dets_machine.proofs.reply.ok_table.Goals as goal

pub returns : goal.returns
returns c = grind (arith, chars_ok, chars_table)
