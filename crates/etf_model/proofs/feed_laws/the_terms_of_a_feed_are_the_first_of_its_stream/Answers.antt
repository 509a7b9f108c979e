use Rattle.etf_model.proofs.FirstTerms.{first_spelled}
use Rattle.etf_model.proofs.feed_laws.the_terms_of_a_feed_are_the_first_of_its_stream.Goals as goal

pub returns : goal.returns
returns c = first_spelled
