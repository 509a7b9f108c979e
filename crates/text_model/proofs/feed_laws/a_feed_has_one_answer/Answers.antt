use Rattle.feed_model.specs.OneAnswer.{one_answer}
use Rattle.text_model.specs.TextFeed.{texts}
use Rattle.text_model.proofs.SteadyTexts.{steady-texts}
use Rattle.text_model.proofs.feed_laws.a_feed_has_one_answer.Goals as goal

pub returns : goal.returns
returns c = one_answer texts steady-texts
