-- Lemma: what a node holds is smaller than the term that it is.
use Rattle.std.specs.Prelude.{◌*◌, ◌≤◌, max}
use Rattle.std.proofs.Common.{arith}
use Rattle.dets_term.specs.declared.term.Node.{Node}
use Rattle.dets_term.specs.declared.term.Node.TheVariants.{Int, Atom, Tuple, Map, List as ListNode, Improper, Bits}
use Rattle.dets_term.specs.declared.pair_list.PairList.TheDeep.{deep-Node}
use Rattle.term_model.specs.TermValue.{depth}
use Rattle.dets_term.specs.Node.{shown, IsSound}
use Rattle.dets_term.specs.Parts.{parts_depth-chain, parts_depth-map_of, parts_depth-improper}

pub deep_le-depth : (n : Node) → IsSound n → max (deep-Node n) 0 ≤ 2 * depth (shown n)
deep_le-depth (Int v) s = omega arith
deep_le-depth (Atom name) s = omega arith
deep_le-depth (Tuple parts) s = omega (arith, parts_depth-chain parts)
deep_le-depth (Map pairs) s = omega (arith, parts_depth-map_of pairs)
deep_le-depth (ListNode parts) s = omega (arith, parts_depth-chain parts)
deep_le-depth (Improper parts tail) s = omega (arith, parts_depth-improper parts tail.value s.0 s.1)
deep_le-depth (Bits bytes used) s = omega arith
