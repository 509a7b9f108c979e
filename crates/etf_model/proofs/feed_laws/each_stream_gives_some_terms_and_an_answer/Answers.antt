use Rattle.feed_model.specs.OneAnswer.{a_stream}
use Rattle.etf_model.specs.SpellingFeed.{spellings}
use Rattle.etf_model.specs.SteadySpellings.{steady-spellings}
use Rattle.etf_model.proofs.feed_laws.each_stream_gives_some_terms_and_an_answer.Goals as goal

pub returns : goal.returns
returns c = a_stream spellings steady-spellings
