use Rattle.std.proofs.Common.{◌≡◌, ◌+◌, ◌*◌, ◌++◌, drop}
use Rattle.std.specs.List.{flat_map}
use Rattle.dets_term.specs.TermValue.{depth}
use Rattle.dets_term.specs.Parts.{deepest, deepest_of_pairs}
use Rattle.etf_model.specs.Canonical.{canonical}
use Rattle.etf_codec.proofs.encoding.+encode.Given as goal

abbrev pub decreases-encode_term : goal.decreases-encode_term
decreases-encode_term l = 3 * depth l.term.now

abbrev pub decreases-encode_each : goal.decreases-encode_each
decreases-encode_each l = 3 * deepest l.parts.now + 1

abbrev pub decreases-encode_pairs : goal.decreases-encode_pairs
decreases-encode_pairs l = 3 * deepest_of_pairs l.pairs.now + 1

abbrev pub decreases-encode_list : goal.decreases-encode_list
decreases-encode_list l = 3 * deepest l.parts.now + 2

-- what is written, and what is left from this index on, are all elements
abbrev pub invariant-encode_each-loop-index : goal.invariant-encode_each-loop-index
invariant-encode_each-loop-index l = l.out ++ flat_map canonical (drop l.index l.parts) ≡ l.initial.out ++ flat_map canonical l.parts

abbrev pub invariant-encode_pairs-loop-index : goal.invariant-encode_pairs-loop-index
invariant-encode_pairs-loop-index l =
    l.out ++ flat_map (λ p. canonical p.0 ++ canonical p.1) (drop l.index l.pairs)
    ≡ l.initial.out ++ flat_map (λ p. canonical p.0 ++ canonical p.1) l.pairs
