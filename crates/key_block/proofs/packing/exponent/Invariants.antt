use Rattle.std.proofs.Common.{ℕ, ◌+◌, ◌*◌, ◌<◌, ◌^◌}
use Rattle.space_model.specs.Sizes.{unit_size, head_size}
use Rattle.key_block.proofs.packing.exponent.Given as goal

-- no smaller block has room
abbrev pub invariant-loop-exp : goal.invariant-loop-exp
invariant-loop-exp l = (j : ℕ) → j < l.exp → unit_size * 2 ^ j < head_size + l.length
