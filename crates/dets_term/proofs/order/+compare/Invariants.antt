use Rattle.std.proofs.Common.{◌≡◌, drop}
use Rattle.dets_term.specs.Fronts.{front_order, values}
use Rattle.term_model.specs.Pairs.{keys}
use Rattle.dets_term.proofs.order.+compare.Given as goal

-- the terms so far are equal, so that the rest decides
abbrev pub invariant-cmp_fronts-loop-place : goal.invariant-cmp_fronts-loop-place
invariant-cmp_fronts-loop-place l =
    front_order l.parts l.others ≡ front_order (drop l.place l.parts) (drop l.place l.others)

abbrev pub invariant-cmp_keys-loop-place : goal.invariant-cmp_keys-loop-place
invariant-cmp_keys-loop-place l =
    front_order (keys l.pairs) (keys l.others) ≡ front_order (keys (drop l.place l.pairs)) (keys (drop l.place l.others))

abbrev pub invariant-cmp_values-loop-place : goal.invariant-cmp_values-loop-place
invariant-cmp_values-loop-place l =
    front_order (values l.pairs) (values l.others) ≡ front_order (values (drop l.place l.pairs)) (values (drop l.place l.others))
