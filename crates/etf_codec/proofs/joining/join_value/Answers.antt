use Rattle.std.proofs.Common.{◌+◌, ◌≤◌, arith, sym, ap, ◌∙◌}
use Rattle.dets_term.specs.TermValue.{depth, elements}
use Rattle.etf_codec.specs.Machine.{resume}
use Rattle.etf_codec.proofs.Built.{IfErr-ok, one_made}
use Rattle.dets_term.specs.PairOrder.{depth-map_of}
use Rattle.etf_codec.proofs.JoinSteps.{pairs_more, pairs_last, part_fits, may_begin_key, value_goes_on, values_end, map_made}
use Rattle.etf_codec.proofs.joining.join_value.Goals as goal

pub within_limits-requires : goal.within_limits-requires
within_limits-requires c =
    let fits = pairs_last c.args.pairs c.insert.new.self c.args.key c.args.value c.args.ahead 255 c.in_ok-insert.ensures.ok c.requires.frame.0
    c.requires.frame.1 c.requires.part in
    IfErr-ok c.map.result _ _ (c.map.ensures
    ∙ map_made c.in_ok-pairs.pairs c.insert.new.self 255 c.in_ok-pairs.ensures.pairs c.in_ok-pairs.ensures.ascending fits (omega arith))

pub returns-then-ahead-eq0-clause-joins : goal.returns-then-ahead-eq0-clause-joins
returns-then-ahead-eq0-clause-joins c begun position =
    let fits = pairs_last c.args.pairs c.insert.new.self c.args.key c.args.value c.args.ahead 255 c.in_ok-insert.ensures.ok c.requires.frame.0
    c.requires.frame.1 c.requires.part in
    let made = one_made c.map.result c.in_ok-map.map _ c.in_ok-map.ensures.ok
    (c.map.ensures ∙ map_made c.in_ok-pairs.pairs c.insert.new.self 255 c.in_ok-pairs.ensures.pairs c.in_ok-pairs.ensures.ascending fits (omega arith)) in
    values_end c.args.ahead c.args.start c.args.at c.args.pairs c.insert.new.self c.args.key c.args.value c.if-ahead-eq0.true c.in_ok-insert.ensures.ok begun
    position
    ∙ ap (λ whole. resume begun c.args.start whole position) (sym made)

pub returns-then-ahead-eq0-clause-within : goal.returns-then-ahead-eq0-clause-within
returns-then-ahead-eq0-clause-within c levels l fits part =
    let last = pairs_last c.args.pairs c.insert.new.self c.args.key c.args.value c.args.ahead levels c.in_ok-insert.ensures.ok fits.0 fits.1 part in
    let made = one_made c.map.result c.in_ok-map.map _ c.in_ok-map.ensures.ok
    (c.map.ensures ∙ map_made c.in_ok-pairs.pairs c.insert.new.self levels c.in_ok-pairs.ensures.pairs c.in_ok-pairs.ensures.ascending last (omega arith)) in
    let shallow : depth c.in_ok-map.map ≤ levels + 1 = omega (arith, ap depth made, depth-map_of c.insert.new.self levels last.0) in
    (shallow, λ outer may. part_fits outer (levels + 1) c.in_ok-map.map shallow (ap elements made))

pub returns-clause-joins : goal.returns-clause-joins
returns-clause-joins c begun position =
    value_goes_on c.args.ahead c.args.start c.args.at c.args.pairs c.insert.new.self c.args.key c.args.value
    (omega arith) c.in_ok-insert.ensures.ok begun position

pub returns-clause-within : goal.returns-clause-within
returns-clause-within c levels l fits part = (
  pairs_more c.args.pairs c.insert.new.self c.args.key c.args.value c.args.ahead levels (omega arith) c.in_ok-insert.ensures.ok fits.0 fits.1 part,
  λ outer may. may_begin_key outer _ c.insert.new.self,
)
