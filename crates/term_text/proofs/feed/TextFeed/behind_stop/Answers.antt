use Rattle.std.proofs.Common.{◌≡◌, ◌-◌, Some, None, true, false, Ok, inr, ap, ◌∙◌, subst}
use Rattle.feed_model.specs.declared.fed.Fed.TheVariants.{Term, Again}
use Rattle.text_model.specs.declared.fault.TextWhy.TheVariants.{BadToken}
use Rattle.text_model.specs.Script.{fault, no_term, IsAnswer}
use Rattle.feed_model.specs.Feed.{Gives}
use Rattle.text_model.specs.TextFeed.{TextFeed, texts}
use Rattle.term_text.proofs.FeedSteps.{undecided_answer, no_end_answer, term_answer, ended_as}
use Rattle.term_text.proofs.feed.TextFeed.behind_stop.Goals as goal

pub returns-in-None-clause-fed : goal.returns-in-None-clause-fed
returns-in-None-clause-fed c = λ fed e.
    let feed = c.args.self.now in
    let ended = ended_as c.self.inside.finished feed.finished c.self.inside.left.items feed.left c.as_slice.result.now c.args.read c.is_end.result None
    c.is_end.ensures c.as_slice.ensures (ap (λ (f : TextFeed). f.left) c.self.view_is) (ap (λ (f : TextFeed). f.finished) c.self.view_is) c.in-None.is in
    let open_end = undecided_answer feed.finished feed.left c.args.read c.args.reader c.requires.read c.requires.stopped ended in
    let same : Again ≡ fed = cc in
    subst (λ g. Gives texts feed c.keep.new.self (Ok g)) same ((open_end.0, inr open_end.1), c.keep.ensures)

pub returns-in-Some-clause-fed : goal.returns-in-Some-clause-fed
returns-in-Some-clause-fed c = λ fed e.
    let feed = c.args.self.now in
    let ended = ended_as c.self.inside.finished feed.finished c.self.inside.left.items feed.left c.as_slice.result.now c.args.read c.is_end.result (Some true)
    c.is_end.ensures c.as_slice.ensures (ap (λ (f : TextFeed). f.left) c.self.view_is) (ap (λ (f : TextFeed). f.finished) c.self.view_is)
    (c.in-Some-true.is ∙ ap Some c.in-Some-true.field-0-test) in
    let same : Term c.in-Some.term ≡ fed = cc in
    subst (λ g. Gives texts feed c.pass.new.self (Ok g)) same (
      c.args.read,
      term_answer feed.finished feed.left c.args.read c.args.reader c.in-Some.term c.requires.read (c.into_term.ensures.some c.in-Some.term c.in-Some.is) ended,
      c.pass.ensures,
    )

pub returns-in-Some-false-clause-syntax : goal.returns-in-Some-false-clause-syntax
returns-in-Some-false-clause-syntax c = λ o why e.
    let feed = c.args.self.now in
    let ended = ended_as c.self.inside.finished feed.finished c.self.inside.left.items feed.left c.as_slice.result.now c.args.read c.is_end.result (Some false)
    c.is_end.ensures c.as_slice.ensures (ap (λ (f : TextFeed). f.left) c.self.view_is) (ap (λ (f : TextFeed). f.finished) c.self.view_is)
    (c.in-Some-false.is ∙ ap Some c.in-Some-false.field-0-test) in
    let at : c.args.read - 1 ≡ o = let s = c.saturating_sub.ensures in cc in
    let reason : BadToken ≡ why = cc in
    subst (λ w. IsAnswer feed.finished feed.left (no_term (fault o w))) reason
    (subst (λ n. IsAnswer feed.finished feed.left (no_term (fault n BadToken))) at
    (no_end_answer feed.finished feed.left c.args.read c.args.reader c.requires.read c.requires.stopped ended))
