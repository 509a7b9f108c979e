use Rattle.std.proofs.Common.{◌≡◌, ◌-◌, take, drop, length, Ok, Err, ap, ◌∙◌, sym, subst}
use Rattle.feed_model.specs.declared.fed.Fed.{Fed}
use Rattle.text_model.specs.declared.fault.TextFault.TheVariants.{Syntax}
use Rattle.feed_model.specs.Feed.{Gives}
use Rattle.text_model.specs.TextFeed.{TextFeed, texts}
use Rattle.text_model.specs.Progress.{reach}
use Rattle.term_text.specs.FeedReads.{HasRead}
use Rattle.term_text.specs.ReaderView.{progress_of}
use Rattle.term_text.proofs.FeedSteps.{failed_answer, read_more, rest_of}
use Rattle.term_text.proofs.feed.TextFeed.read_on.Goals as goal

pub answer-requires : goal.answer-requires
answer-requires c =
    let items = c.self.inside.left.items in
    let bytes = c.as_slice.result.now in
    let read = c.replace-read.result in
    let before : HasRead items read c.replace-reader.result = rw (c.replace-read.ensures.value, c.replace-reader.ensures.value) c.self.invariant.reader in
    read_more items (take (length bytes - read) (drop read bytes)) read c.in-Ok.taken c.replace-reader.result c.run.new.self before
    (rest_of bytes read ∙ ap (drop read) c.as_slice.ensures) c.in-Ok.ensures.within c.in-Ok.ensures.reached c.in-Ok.ensures.read c.in-Ok.ensures.ready
    c.in-Ok.ensures.stop

pub returns-in-Ok-clause-fed : goal.returns-in-Ok-clause-fed
returns-in-Ok-clause-fed c =
    subst (λ (f : TextFeed). (fed : Fed) → c.answer.result ≡ Ok fed → Gives texts f c.answer.new.self (Ok fed)) c.self.view_is c.answer.ensures.fed

pub returns-in-Ok-clause-syntax : goal.returns-in-Ok-clause-syntax
returns-in-Ok-clause-syntax c = rw (← c.self.view_is) c.answer.ensures.syntax

pub returns-in-Err-clause-syntax : goal.returns-in-Err-clause-syntax
returns-in-Err-clause-syntax c = λ o why e.
    let items = c.self.inside.left.items in
    let bytes = c.as_slice.result.now in
    let read = c.replace-read.result in
    let before : HasRead items read c.replace-reader.result = rw (c.replace-read.ensures.value, c.replace-reader.ensures.value) c.self.invariant.reader in
    let fault : c.in-Err.fault ≡ Syntax o why = cc in
    rw (← c.self.view_is) (failed_answer c.self.inside.finished items read c.replace-reader.result o why before
    (ap (reach (progress_of c.replace-reader.result)) (sym (rest_of bytes read ∙ ap (drop read) c.as_slice.ensures))
    ∙ c.in-Err.ensures.syntax o why (ap Err fault)))
