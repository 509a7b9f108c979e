-- Bytes as bits. A byte's bits go from the highest to the lowest, as in BIT_BINARY_EXT of the External Term Format
-- chapter of the ERTS User's Guide.
use Rattle.std.specs.Prelude.{◌≡◌, ℕ, ◌-◌, ◌/◌, ◌%◌, ◌^◌, ◌≤◌, Bool, ◌==◌, List, [], ◌∷◌, ◌++◌, take}

abbrev pub is_odd : ℕ → Bool
is_odd n = n % 2 == 1

-- the eight bits of a byte
abbrev pub byte_bits : ℕ → List Bool
byte_bits x =
    is_odd (x / 128) ∷ is_odd (x / 64) ∷ is_odd (x / 32) ∷ is_odd (x / 16)
    ∷ is_odd (x / 8) ∷ is_odd (x / 4) ∷ is_odd (x / 2) ∷ is_odd x ∷ []

-- the bits of some bytes, of the last of them only so many from its front
abbrev pub bits_of : List ℕ → ℕ → List Bool
bits_of [] used = []
bits_of (x ∷ []) used = take used (byte_bits x)
bits_of (x ∷ y ∷ bytes) used = byte_bits x ++ bits_of (y ∷ bytes) used

-- the last of some bytes, 0 where there is none
abbrev pub last_byte : List ℕ → ℕ
last_byte [] = 0
last_byte (x ∷ []) = x
last_byte (x ∷ y ∷ bytes) = last_byte (y ∷ bytes)

-- how many bits of the last byte may be used: 1 to 8, and 8 where there is no byte
abbrev pub MayUse : List ℕ → ℕ → Type 0
MayUse bytes used = (1 ≤ used) × (used ≤ 8) × (bytes ≡ [] → used ≡ 8)

-- and the bits behind them are zero
pub record IsPadded (bytes : List ℕ) (count : ℕ) : Type 0 where
  pub used : MayUse bytes count
  pub zeros : last_byte bytes % 2 ^ (8 - count) ≡ 0
