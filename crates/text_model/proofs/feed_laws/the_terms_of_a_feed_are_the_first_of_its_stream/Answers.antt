use Rattle.feed_model.specs.FirstTerms.{first_terms}
use Rattle.text_model.specs.TextFeed.{texts}
use Rattle.text_model.proofs.SteadyTexts.{steady-texts}
use Rattle.text_model.proofs.feed_laws.the_terms_of_a_feed_are_the_first_of_its_stream.Goals as goal

pub returns : goal.returns
returns c = first_terms texts steady-texts
