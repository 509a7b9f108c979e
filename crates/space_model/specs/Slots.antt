-- The slot of a hash. This project's own, after the linear hashing of Litwin.
use Rattle.std.specs.Prelude.{ℕ, ◌+◌, ◌%◌, ◌^◌, cond, nat_lt}
use Rattle.space_model.specs.Least.{log2}

-- The slot of a hash among at least one: the hash modulo the next power of two where there is such a slot, else modulo the
-- power of two below it.
abbrev pub slot_of : ℕ → ℕ → ℕ
slot_of hash slots =
    cond (nat_lt (hash % 2 ^ (log2 slots + 1)) slots) (hash % 2 ^ (log2 slots + 1)) (hash % 2 ^ log2 slots)
