use Rattle.std.proofs.Common.{◌≡◌, subst, arith}
use Rattle.buddy_space.specs.Pieces.{IsBest}
use Rattle.buddy_space.proofs.Stretches.{none_searched, piece_searched}
use Rattle.buddy_space.proofs.search.best_of_stretch.Goals as goal

pub loop-unit-init : goal.loop-unit-init
loop-unit-init c = record {
  low = omega arith;
  high = omega arith;
  searched = λ marks is. none_searched marks c.args.wanted c.args.first c.args.end is;
}

pub loop-unit-preserved : goal.loop-unit-preserved
loop-unit-preserved c =
    let low = c.loop-unit.invariant.low in
    let ends = c.exp_of_piece-exp.ensures.ends in
    let size = c.size_of-unit.ensures.value in record {
      low = omega (arith, low);
      high = omega (arith, ends, size);
      searched = λ marks is. rw (c.with_piece-best.ensures, size)
          (piece_searched marks c.args.wanted c.args.first c.args.end c.loop-unit.unit c.exp_of_piece-exp.result c.loop-unit.best is low
          c.exp_of_piece-exp.ensures.most c.exp_of_piece-exp.ensures.aligned ends c.exp_of_piece-exp.ensures.largest (c.loop-unit.invariant.searched marks is));
    }

pub returns : goal.returns
returns c = λ marks is.
    let high = c.loop-unit.invariant.high in
    let same : c.loop-unit.unit ≡ c.args.end = omega (arith, high) in
    subst (λ end. IsBest 12 marks c.args.wanted c.args.first end c.loop-unit.best) same (c.loop-unit.invariant.searched marks is).best
