-- The terms of a feed of spellings are the first of its stream, also where more stands behind what was said to be its end.
use Rattle.std.proofs.Common.{◌≡◌, ℕ, true, List, [], ◌++◌, refl, subst, append-nil}
use Rattle.dets_term.specs.TermValue.{TermValue}
use Rattle.feed_model.specs.Meaning.{Behind}
use Rattle.feed_model.specs.Feed.{empty_feed}
use Rattle.feed_model.specs.Stream.{IsStream}
use Rattle.feed_model.specs.History.{Call, IsHistory, fed_bytes, answered_terms}
use Rattle.feed_model.specs.OneAnswer.{a_stream}
use Rattle.feed_model.specs.FirstTerms.{first_terms}
use Rattle.feed_model.specs.Growth.{first_stay}
use Rattle.etf_model.specs.declared.fault.EtfFault.{EtfFault}
use Rattle.etf_model.specs.SpellingFeed.{spellings}
use Rattle.etf_model.specs.SteadySpellings.{term_stays, steady-spellings}

pub first_spelled : (calls : List (Call EtfFault)) (rest : List ℕ) (ts : List TermValue) (behind : Behind EtfFault)
    → IsHistory spellings empty_feed calls → IsStream spellings true 0 (fed_bytes calls ++ rest) ts behind
    → (more : List TermValue) × (ts ≡ answered_terms calls ++ more)
first_spelled calls rest ts behind h given =
    let fed = fed_bytes calls in
    let whole = a_stream spellings steady-spellings true 0 (fed ++ []) in
    let first = first_terms spellings steady-spellings calls [] whole.0 whole.1 h (λ f. refl) whole.2 in
    first_stay spellings steady-spellings true true rest (λ start bytes t count front. term_stays bytes rest t count front)
    0 fed (answered_terms calls) first.0 ts whole.1 behind
    (subst (λ l. IsStream spellings true 0 l (answered_terms calls ++ first.0) whole.1) (append-nil fed)
    (subst (λ us. IsStream spellings true 0 (fed ++ []) us whole.1) first.1 whole.2)) given
