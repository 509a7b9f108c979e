use Rattle.std.proofs.Common.{arith, ◌≡◌, ◌++◌, [], ◌∷◌}
use Rattle.dets_term.specs.Parts.{deepest_of_pairs, deepest_of_pairs-push, ArePairs-push}
use Rattle.dets_term.proofs.pair_list.PairList.push.Goals as goal

pub invariant_of-self-2 : goal.invariant_of-self-2
invariant_of-self-2 c =
    let deepest : c.max-levels.result ≡ deepest_of_pairs (c.self.inside.items.items ++ c.args.item ∷ []) =
    omega (
      arith,
      deepest_of_pairs-push c.self.inside.items.items c.args.item,
      c.max.ensures,
      c.max-levels.ensures,
      c.self.invariant.0,
      c.depth.ensures.value,
      c.depth-2.ensures.value,
    ) in
    rw c.in_ok-push.ensures.items (deepest, ArePairs-push _ _ c.self.invariant.1 c.depth.ensures.term c.depth-2.ensures.term)
