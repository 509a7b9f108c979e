use Rattle.std.proofs.Common.{◌≡◌, ◌++◌}
use Rattle.dets_term.proofs.map_pairs.MapPairs.into_pairs.Given as goal

-- the pairs that were moved and those that are left
abbrev pub invariant-loop-pair : goal.invariant-loop-pair
invariant-loop-pair l = l.pairs ++ l.pair-iterator ≡ l.fn.self
