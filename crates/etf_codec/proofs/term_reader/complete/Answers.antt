use Rattle.std.proofs.Common.{ℕ, ◌≤◌, ◌∙◌, subst, Ok}
use Rattle.etf_codec.specs.Begun.{FrameFits, PartFits}
use Rattle.etf_codec.specs.Joins.{JoinsTo, JoinsWithin}
use Rattle.etf_codec.proofs.Nests.{whole_step, open_step, fault_step, completes_from}
use Rattle.etf_codec.proofs.term_reader.complete.Goals as goal

pub returns-in_err-joined : goal.returns-in_err-joined
returns-in_err-joined c =
    completes_from c.args.begun.now.items c.loop-innermost.begun.items c.pop.new.self.items c.args.start c.loop-innermost.at c.args.part c.loop-innermost.term
    c.from_residual.result _ c.from_residual.ensures.1
    c.loop-innermost.invariant.2
    (fault_step c.loop-innermost.begun.items c.pop.new.self.items c.in-Some.innermost c.in-Some.ensures.items c.loop-innermost.invariant.0 c.loop-innermost.term
    c.loop-innermost.invariant.1 c.loop-innermost.at _ c.in_err-joined.ensures.joins)

pub loop-innermost-preserved : goal.loop-innermost-preserved
loop-innermost-preserved c =
    let step = whole_step c.loop-innermost.begun.items c.pop.new.self.items c.in-Some.innermost c.in-Some.ensures.items c.loop-innermost.invariant.0
    c.loop-innermost.term c.loop-innermost.invariant.1
    c.loop-innermost.at c.in-Whole.start c.in-Whole.whole
    (subst (λ j. JoinsTo c.in-Some.innermost c.loop-innermost.at c.loop-innermost.term (Ok j)) c.in-Whole.is c.in_ok-joined.ensures.joins)
    (subst (λ j. (levels : ℕ) → levels ≤ 255 → FrameFits c.in-Some.innermost.frame levels → PartFits c.in-Some.innermost.frame levels c.loop-innermost.term
    → JoinsWithin c.in-Some.innermost levels (Ok j)) c.in-Whole.is
    c.in_ok-joined.ensures.within) in
    (step.0, step.1, λ position. c.loop-innermost.invariant.2 position ∙ step.2 position)

pub returns-in-Open : goal.returns-in-Open
returns-in-Open c =
    let step = open_step c.loop-innermost.begun.items c.pop.new.self.items c.in-Some.innermost c.in-Some.ensures.items c.loop-innermost.invariant.0
    c.loop-innermost.term c.loop-innermost.invariant.1
    c.loop-innermost.at c.in-Open.open c.push_begun.new.begun.items c.in_ok-push_begun-in-Open.ensures.ok
    (subst (λ j. JoinsTo c.in-Some.innermost c.loop-innermost.at c.loop-innermost.term (Ok j)) c.in-Open.is c.in_ok-joined.ensures.joins)
    (subst (λ j. (levels : ℕ) → levels ≤ 255 → FrameFits c.in-Some.innermost.frame levels → PartFits c.in-Some.innermost.frame levels c.loop-innermost.term
    → JoinsWithin c.in-Some.innermost levels (Ok j)) c.in-Open.is
    c.in_ok-joined.ensures.within) in
    (step.0, λ position. c.loop-innermost.invariant.2 position ∙ step.1 position)
