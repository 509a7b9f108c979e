use Rattle.std.proofs.Common.{arith}
use Rattle.buddy_space.proofs.Stretches.{none_found, stretch_found, all_found}
use Rattle.buddy_space.proofs.search.best_of_all.Goals as goal

pub loop-unit-init : goal.loop-unit-init
loop-unit-init c = none_found c.args.marks.now c.args.wanted

pub loop-unit-preserved : goal.loop-unit-preserved
loop-unit-preserved c =
    rw c.better-best.ensures
    (stretch_found c.args.marks.now c.args.wanted c.loop-unit.unit c.free_until-end.result c.loop-unit.best c.best_of_stretch.result
    c.free_until-end.ensures.low c.free_until-end.ensures.free c.loop-unit.invariant (c.best_of_stretch.ensures c.args.marks.now))

pub returns : goal.returns
returns c = all_found c.args.marks.now c.args.wanted c.loop-unit.unit c.loop-unit.best (omega arith) c.loop-unit.invariant
