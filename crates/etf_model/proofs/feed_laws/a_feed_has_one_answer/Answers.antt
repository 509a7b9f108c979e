use Rattle.feed_model.specs.OneAnswer.{one_answer}
use Rattle.etf_model.specs.SpellingFeed.{spellings}
use Rattle.etf_model.specs.SteadySpellings.{steady-spellings}
use Rattle.etf_model.proofs.feed_laws.a_feed_has_one_answer.Goals as goal

pub returns : goal.returns
returns c = one_answer spellings steady-spellings
