use Rattle.feed_model.specs.OneAnswer.{one_list}
use Rattle.etf_model.specs.SpellingFeed.{spellings}
use Rattle.etf_model.specs.SteadySpellings.{steady-spellings}
use Rattle.etf_model.proofs.feed_laws.a_stream_gives_one_list_of_terms.Goals as goal

pub returns : goal.returns
returns c = one_list spellings steady-spellings
