-- Lemma: a list of pairs is larger than each of its terms.
use Rattle.std.specs.Prelude.{◌+◌, ◌*◌, ◌≤◌, max, List, [], ◌∷◌}
use Rattle.std.proofs.Common.{arith}
use denote.Param.Weighed.{most}
use Rattle.dets_term.specs.declared.pair_list.PairList.TheShapes.{weighed-PairList-items-at-2}
use Rattle.dets_term.specs.declared.term.Term.{Term}
use Rattle.term_model.specs.TermValue.{depth}
use Rattle.dets_term.specs.Parts.{deepest_of_pairs}

pub most_le-deepest_of_pairs : (ps : List (Term × Term)) → most ((weighed-PairList-items-at-2).weight Term (λ t. 2 * depth t + 1)) ps ≤ 2 *
    deepest_of_pairs ps + 1
most_le-deepest_of_pairs [] = omega arith
most_le-deepest_of_pairs (p ∷ ps) =
    let rest = most_le-deepest_of_pairs ps in
    let first : (weighed-PairList-items-at-2).weight Term (λ t. 2 * depth t + 1) p ≤ max (2 * depth p.0 + 1) (2 * depth p.1 + 1) = omega arith in
    omega arith
