use Rattle.std.proofs.Common.{◌≡◌, ◌∙◌, ap}
use Rattle.std.proofs.lemmas.Result.{IfOk-weaker}
use Rattle.dets_term.specs.TermValue.{atom}
use Rattle.run_model.specs.Reply.{ok}
use Rattle.dets_machine.proofs.Words.{chars_ok}
use Rattle.dets_machine.proofs.reply.ok.Goals as goal

pub returns : goal.returns
returns c = IfOk-weaker c.word.result _ (λ reply. reply ≡ ok) (λ reply e. e ∙ ap atom chars_ok) c.word.ensures
