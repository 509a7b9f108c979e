use Rattle.feed_model.specs.OneAnswer.{a_stream}
use Rattle.text_model.specs.TextFeed.{texts}
use Rattle.text_model.proofs.SteadyTexts.{steady-texts}
use Rattle.text_model.proofs.feed_laws.each_stream_gives_some_terms_and_an_answer.Goals as goal

pub returns : goal.returns
returns c = a_stream texts steady-texts
