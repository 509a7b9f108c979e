use Rattle.std.proofs.Common.{◌≡◌, ◌+◌, ◌≤◌, length, Err, refl, ap, inl, ◌∙◌, sym, subst}
use Rattle.text_model.specs.declared.fault.TextFault.TheVariants.{Syntax}
use Rattle.feed_model.specs.Feed.{failed, Gives}
use Rattle.text_model.specs.TextFeed.{TextFeed, texts}
use Rattle.text_model.proofs.FaultOffsets.{answer_within}
use Rattle.term_text.proofs.feed.TextFeed.read_next.Goals as goal

pub fail-requires : goal.fail-requires
fail-requires c =
    let feed = c.args.self.now in
    let at = c.in-Err-Syntax.at in
    let told = c.read_on.ensures.syntax at c.in-Err-Syntax.why (c.in-Err-Syntax.is ∙ ap Err c.in-Err-Syntax.field-0-is) in
    subst (λ (f : TextFeed). at ≤ length f.left) (sym c.in-Err-Syntax.ensures.err) (answer_within feed.finished feed.left at c.in-Err-Syntax.why told)

pub returns-in-Err-Syntax-clause-gives : goal.returns-in-Err-Syntax-clause-gives
returns-in-Err-Syntax-clause-gives c =
    let feed = c.args.self.now in
    let at = c.in-Err-Syntax.at in
    let why = c.in-Err-Syntax.why in
    let told = c.read_on.ensures.syntax at why (c.in-Err-Syntax.is ∙ ap Err c.in-Err-Syntax.field-0-is) in
    let same = c.in-Err-Syntax.ensures.err in
    let fault : c.fail.result ≡ Syntax (feed.offset + at) why = c.fail.ensures.fault ∙ ap (λ (f : TextFeed). Syntax (f.offset + at) why) same in
    let new : c.fail.new.self ≡ failed feed (Syntax (feed.offset + at) why) =
    c.fail.ensures.failed ∙ ap (λ (f : TextFeed). failed f (Syntax (f.offset + at) why)) same in
    subst (λ r. Gives texts feed c.fail.new.self (Err r)) (sym fault) (inl ((at, refl, told), new))
