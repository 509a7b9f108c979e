use Rattle.std.proofs.Common.{◌≡◌, take, ◌∙◌, ap, subst, arith}
use Rattle.flush_engine.specs.Placing.{in_segments}
use Rattle.flush_engine.specs.Steps.{IsLed}
use Rattle.flush_engine.proofs.LastStep.{none-left}
use Rattle.flush_engine.proofs.all.take_all_back.Goals as goal

pub returns : goal.returns
returns c = λ most first l.
    let i = c.loop-left.invariant in
    let none : c.loop-left.left ≡ 0 = omega (arith, c.loop-left-test.false) in
    let end = subst (λ n. IsLed most c.args.cache.now c.args.changes.now (take n c.args.units.now) first c.loop-left.space) none (i.led most first l) in
    none-left most c.args.cache.now c.args.changes.now first c.loop-left.space end ∙ ap (λ n. in_segments n first) i.segments
