use Rattle.text_model.proofs.SteadyTexts.{script_stream}
use Rattle.text_model.proofs.feed_laws.a_stream_gives_the_terms_of_its_script.Goals as goal

pub returns : goal.returns
returns c = script_stream
