-- The bytes so far.
use Rattle.std.proofs.Common.{◌≡◌, ◌+◌, map, get_or}
use Rattle.std.specs.List.{range_with_len}
use Rattle.host_model.specs.Restart.{byte_picked}
use Rattle.host_model.proofs.restart.picked_bytes.Given as goal

abbrev pub invariant-loop-i : goal.invariant-loop-i
invariant-loop-i l =
    l.picked.items ≡ map (λ i. byte_picked l.pick (l.at + i) (get_or l.image (l.at + i) 0) (get_or l.bytes i 0)) (range_with_len 0 l.i)
