use Rattle.std.proofs.Common.{◌+◌, ◌≤◌, arith, sym, ap, ◌∙◌}
use Rattle.dets_term.specs.TermValue.{elements, depth}
use Rattle.etf_codec.specs.Machine.{resume}
use Rattle.etf_codec.proofs.Built.{IfErr-ok, one_made}
use Rattle.etf_codec.proofs.TermSteps.{built_tuple, depth-tuple_of}
use Rattle.etf_codec.proofs.JoinSteps.{fit_more, fit_last, part_fits, may_begin_element, element_goes_on, element_ends}
use Rattle.etf_codec.proofs.joining.join_element.Goals as goal

pub within_limits-requires : goal.within_limits-requires
within_limits-requires c =
    let fits = fit_last c.args.parts c.push.new.self c.args.part c.args.ahead 255 c.in_ok-push.ensures.ok c.requires.frame c.requires.part in
    IfErr-ok c.tuple.result _ _ (c.tuple.ensures ∙ built_tuple c.push.new.self 255 (omega arith) (omega (arith, fits.1)) fits.0)

pub returns-then-ahead-eq0-clause-joins : goal.returns-then-ahead-eq0-clause-joins
returns-then-ahead-eq0-clause-joins c begun position =
    let fits = fit_last c.args.parts c.push.new.self c.args.part c.args.ahead 255 c.in_ok-push.ensures.ok c.requires.frame c.requires.part in
    let made = one_made c.tuple.result c.in_ok-tuple.tuple _ c.in_ok-tuple.ensures.ok
    (c.tuple.ensures ∙ built_tuple c.push.new.self 255 (omega arith) (omega (arith, fits.1)) fits.0) in
    element_ends c.args.ahead c.args.start c.args.at c.args.parts c.push.new.self c.args.part c.if-ahead-eq0.true c.in_ok-push.ensures.ok begun position
    ∙ ap (λ whole. resume begun c.args.start whole position) (sym made)

pub returns-then-ahead-eq0-clause-within : goal.returns-then-ahead-eq0-clause-within
returns-then-ahead-eq0-clause-within c levels l fits part =
    let last = fit_last c.args.parts c.push.new.self c.args.part c.args.ahead levels c.in_ok-push.ensures.ok fits part in
    let made = one_made c.tuple.result c.in_ok-tuple.tuple _ c.in_ok-tuple.ensures.ok
    (c.tuple.ensures ∙ built_tuple c.push.new.self levels (omega arith) (omega (arith, last.1)) last.0) in
    let shallow : depth c.in_ok-tuple.tuple ≤ levels + 1 = omega (arith, ap depth made, depth-tuple_of c.push.new.self levels last.0) in
    (shallow, λ outer may. part_fits outer (levels + 1) c.in_ok-tuple.tuple shallow (ap elements made))

pub returns-clause-joins : goal.returns-clause-joins
returns-clause-joins c begun position =
    element_goes_on c.args.ahead c.args.start c.args.at c.args.parts c.push.new.self c.args.part (omega arith) c.in_ok-push.ensures.ok begun position

pub returns-clause-within : goal.returns-clause-within
returns-clause-within c levels l fits part = (
  fit_more c.args.parts c.push.new.self c.args.part c.args.ahead levels (omega arith) c.in_ok-push.ensures.ok fits part,
  λ outer may. may_begin_element outer _ c.push.new.self,
)
