use Rattle.std.proofs.Common.{Err, ap, sym, ◌∙◌, subst}
use Rattle.feed_model.specs.Feed.{failed}
use Rattle.etf_model.specs.SpellingFeed.{SpellingFeed, front_of}
use Rattle.etf_model.specs.Spelling.{spelling, IsPart}
use Rattle.etf_model.specs.Answers.{Answers}
use Rattle.etf_codec.proofs.FeedSteps.{gives_first, gives_broken}
use Rattle.etf_codec.proofs.feed.TermFeed.next.Goals as goal

pub behind_the_last-requires : goal.behind_the_last-requires
behind_the_last-requires c =
    let part = subst (λ fault. Answers spelling c.args.self.now.offset (front_of c.args.self.now) (Err fault)) c.in-Short.is c.in-Err.ensures.fault in
    subst (λ (s : SpellingFeed). IsPart (front_of s)) (sym c.in-Err.ensures.stays) part

pub returns-in_default-fault : goal.returns-in_default-fault
returns-in_default-fault c =
    let old = c.args.self.now in
    gives_first old c.keep_fault.new.self (Err c.keep_fault.result) (ap (λ (s : SpellingFeed). s.fault) (sym c.self.view_is) ∙ c.in_default.is)
    (gives_broken old c.keep_fault.new.self c.in-Err.fault c.keep_fault.result c.in_default-fault.not-Short c.in_default-fault.not-Memory c.in-Err.ensures.fault
    (c.keep_fault.ensures.kept ∙ ap (λ (s : SpellingFeed). failed s c.in-Err.fault) c.in-Err.ensures.stays) c.keep_fault.ensures.same)
