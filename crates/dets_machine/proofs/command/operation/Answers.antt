use Rattle.std.proofs.Common.{arith}
use Rattle.dets_machine.proofs.Words.{chars_open, chars_insert, chars_lookup}
use Rattle.dets_machine.proofs.command.operation.Goals as goal

pub returns-then-is_empty_list-clause-built : goal.returns-then-is_empty_list-clause-built
returns-then-is_empty_list-clause-built c = grind (arith, chars_open, chars_insert, chars_lookup)

pub returns-then-is_filled_tuple-clause-built : goal.returns-then-is_filled_tuple-clause-built
returns-then-is_filled_tuple-clause-built c = grind (arith, chars_open, chars_insert, chars_lookup)

pub returns-then-is_word-3-clause-built : goal.returns-then-is_word-3-clause-built
returns-then-is_word-3-clause-built c = grind (arith, chars_open, chars_insert, chars_lookup)

pub returns-else-is_word-3-clause-built : goal.returns-else-is_word-3-clause-built
returns-else-is_word-3-clause-built c = grind (arith, chars_open, chars_insert, chars_lookup)
