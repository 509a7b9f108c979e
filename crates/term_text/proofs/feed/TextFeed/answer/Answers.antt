use Rattle.std.proofs.Common.{◌≡◌, true, false, Ok, refl, ap, ◌∙◌, sym, subst}
use Rattle.feed_model.specs.declared.fed.Fed.TheVariants.{Again, End}
use Rattle.text_model.specs.Script.{fault, no_term, IsAnswer}
use Rattle.feed_model.specs.Feed.{Gives}
use Rattle.text_model.specs.TextFeed.{TextFeed, texts}
use Rattle.term_text.proofs.FeedSteps.{again_answer, blank_answer, last_answer, begun_answer}
use Rattle.term_text.proofs.feed.TextFeed.answer.Goals as goal

pub returns-then-not-self-clause-fed : goal.returns-then-not-self-clause-fed
returns-then-not-self-clause-fed c = λ fed e.
    let feed = c.args.self.now in
    let going = sym c.is_stopped.ensures ∙ c.if-is_stopped.false in
    let goes_on : feed.finished ≡ false = sym (ap (λ (f : TextFeed). f.finished) c.self.view_is) ∙ c.if-not-self.true in
    let same : Again ≡ fed = cc in
    subst (λ g. Gives texts feed c.keep.new.self (Ok g)) same
    ((goes_on, again_answer feed.left c.args.read c.args.reader c.requires going), c.keep.ensures)

pub returns-in-None-clause-fed : goal.returns-in-None-clause-fed
returns-in-None-clause-fed c = λ fed e.
    let feed = c.args.self.now in
    let going = sym c.is_stopped.ensures ∙ c.if-is_stopped.false in
    let finished : feed.finished ≡ true = sym (ap (λ (f : TextFeed). f.finished) c.self.view_is) ∙ c.if-not-self.false in
    let same : End ≡ fed = cc in
    subst (λ g. Gives texts feed c.keep-in-None.new.self (Ok g)) same (
      (finished, blank_answer feed.left c.args.read c.args.reader c.requires going (c.in-None.ensures.none refl) (sym c.is_blank.ensures ∙ c.if-is_blank.true)),
      c.keep-in-None.ensures,
    )

pub returns-in-Some-clause-syntax : goal.returns-in-Some-clause-syntax
returns-in-Some-clause-syntax c = λ o why e.
    let feed = c.args.self.now in
    let going = sym c.is_stopped.ensures ∙ c.if-is_stopped.false in
    let finished : feed.finished ≡ true = sym (ap (λ (f : TextFeed). f.finished) c.self.view_is) ∙ c.if-not-self.false in
    subst (λ b. IsAnswer b feed.left (no_term (fault o why))) (sym finished)
    (last_answer feed.left c.args.read c.args.reader o why c.requires going (c.blank_fault.ensures.some o why cc))

pub returns-else-is_blank-clause-syntax : goal.returns-else-is_blank-clause-syntax
returns-else-is_blank-clause-syntax c = λ o why e.
    let feed = c.args.self.now in
    let going = sym c.is_stopped.ensures ∙ c.if-is_stopped.false in
    let finished : feed.finished ≡ true = sym (ap (λ (f : TextFeed). f.finished) c.self.view_is) ∙ c.if-not-self.false in
    subst (λ b. IsAnswer b feed.left (no_term (fault o why))) (sym finished)
    (begun_answer feed.left c.args.read c.args.reader o why c.requires going (c.ended.ensures o why cc))
