use Rattle.std.proofs.Common.{◌≡◌, ◌∙◌, sym, ap, subst, arith}
use Rattle.term_model.specs.TermValue.{tuple, nil, chain, map_of, depth}
use Rattle.dets_term.specs.Node.{shown, IsSound}
use Rattle.dets_term.specs.Parts.{parts_depth-chain, parts_depth-map_of, parts_depth-improper}
use Rattle.dets_term.proofs.term.Term.+depth.Goals as goal

pub returns-in-Tuple-clause-value : goal.returns-in-Tuple-clause-value
returns-in-Tuple-clause-value t c =
    let value : depth c.args.self.now ≡ depth (tuple (chain c.in-Tuple.parts nil)) = ap depth (sym c.self.view_is ∙ ap shown c.in-Tuple.is) in
    omega (arith, parts_depth-chain c.in-Tuple.parts, c.levels.ensures.value)

pub returns-in-Map-clause-value : goal.returns-in-Map-clause-value
returns-in-Map-clause-value t c =
    let value : depth c.args.self.now ≡ depth (map_of c.in-Map.pairs) = ap depth (sym c.self.view_is ∙ ap shown c.in-Map.is) in
    omega (arith, parts_depth-map_of c.in-Map.pairs, c.levels-in-Map.ensures.value)

pub returns-in-List-clause-value : goal.returns-in-List-clause-value
returns-in-List-clause-value t c =
    let value : depth c.args.self.now ≡ depth (chain c.in-List.parts nil) = ap depth (sym c.self.view_is ∙ ap shown c.in-List.is) in
    omega (arith, parts_depth-chain c.in-List.parts, c.levels-in-List.ensures.value)

pub returns-in-Improper-clause-value : goal.returns-in-Improper-clause-value
returns-in-Improper-clause-value t c =
    let list = c.in-Improper in
    let sound = subst IsSound list.is c.self.invariant.1 in
    let value : depth c.args.self.now ≡ depth (chain list.parts list.tail.value) = ap depth (sym c.self.view_is ∙ ap shown list.is) in
    omega (
      arith,
      parts_depth-improper list.parts list.tail.value sound.0 sound.1,
      c.levels-in-Improper.ensures.value,
      rw c.deref.ensures at c.depth.ensures.value,
      c.max.ensures,
    )
