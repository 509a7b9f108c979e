use Rattle.feed_model.specs.OneAnswer.{one_list}
use Rattle.text_model.specs.TextFeed.{texts}
use Rattle.text_model.proofs.SteadyTexts.{steady-texts}
use Rattle.text_model.proofs.feed_laws.a_stream_gives_one_list_of_terms.Goals as goal

pub returns : goal.returns
returns c = one_list texts steady-texts
