-- The hash FNV-1a of 32 bits, by Fowler, Noll and Vo.
use Rattle.std.specs.Prelude.{ℕ, ◌*◌, ◌%◌, ◌^◌, List, [], ◌∷◌, bit_xor}

-- the hash of some bytes behind those that this hash is of
abbrev pub hash_after : ℕ → List ℕ → ℕ
hash_after h [] = h
hash_after h (x ∷ bytes) = hash_after ((bit_xor h x * 16777619) % 2 ^ 32) bytes

abbrev pub hash_of : List ℕ → ℕ
hash_of bytes = hash_after 2166136261 bytes
