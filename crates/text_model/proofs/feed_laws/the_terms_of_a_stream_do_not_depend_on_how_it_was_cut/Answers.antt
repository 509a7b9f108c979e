use Rattle.feed_model.specs.Histories.{terms_of_stream, same_terms}
use Rattle.text_model.specs.TextFeed.{texts}
use Rattle.text_model.proofs.SteadyTexts.{steady-texts}
use Rattle.text_model.proofs.feed_laws.the_terms_of_a_stream_do_not_depend_on_how_it_was_cut.Goals as goal

pub returns-clause-given : goal.returns-clause-given
returns-clause-given c = terms_of_stream texts steady-texts

pub returns-clause-same : goal.returns-clause-same
returns-clause-same c = same_terms texts steady-texts
