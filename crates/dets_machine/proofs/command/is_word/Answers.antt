use Rattle.std.proofs.Common.{◌∙◌}
use Rattle.dets_machine.proofs.Words.{same_texts}
use Rattle.dets_machine.proofs.command.is_word.Goals as goal

pub returns : goal.returns
returns c = c.eq.ensures ∙ same_texts c.args.name.now c.args.word.now c.utf8.name c.utf8.word
