-- What stands in front of some bytes is what the machine answers behind them, and nothing else.
use Rattle.std.proofs.Common.{◌≡◌, ℕ, Bool, true, false, List, refl}
use Rattle.text_model.specs.Script.{Answer, IsAnswer}
use Rattle.text_model.specs.Progress.{no_progress, reach, answer_of}
use Rattle.text_model.proofs.UniqueAnswers.{same_answer}
use Rattle.text_model.proofs.FinishedAnswers.{finished_is}
use Rattle.text_model.proofs.OpenAnswers.{open_is}

pub answer_is : (finished : Bool) (bytes : List ℕ) → IsAnswer finished bytes (answer_of finished bytes)
answer_is true bytes = finished_is bytes (reach no_progress bytes) refl
answer_is false bytes = open_is bytes (reach no_progress bytes) refl

pub answer_only : (finished : Bool) (bytes : List ℕ) (answer : Answer) → IsAnswer finished bytes answer → answer ≡ answer_of finished bytes
answer_only finished bytes answer is = same_answer finished bytes answer (answer_of finished bytes) is (answer_is finished bytes)
