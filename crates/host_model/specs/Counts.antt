-- Counts of faults, and the numbers of calls. All of it is this project's own.
use Rattle.std.specs.Prelude.{ℕ, ◌+◌, ◌-◌, ◌^◌, ◌≤◌, ◌<◌, min, Bool, false, List, Option, Some, None, nat_lt, ◌==◌, if◌then◌else◌}
use Rattle.std.specs.List.{list_any}
use Rattle.std.proofs.Common.{arith}

-- a count of 64 bits, which stays at its last value once that is reached
abbrev pub counted : ℕ → ℕ
counted n = min n (2 ^ 64 - 1)

pub count_fits : (n : ℕ) → counted n < 2 ^ 64
count_fits n = omega arith

-- one more
abbrev pub raised : ℕ → ℕ
raised count = counted (count + 1)

-- the count rose in between, or stands at its last value
abbrev pub Rose : ℕ → ℕ → Type 0
Rose before now = raised before ≤ now

-- the number of the call after this one; none where 64 bits do not hold it
abbrev pub following : Option ℕ → Option ℕ
following None = None
following (Some n) = if nat_lt n (2 ^ 64 - 1) then Some (n + 1) else None

-- whether the call of this number stands in the list
abbrev pub is_listed : Option ℕ → List ℕ → Bool
is_listed None list = false
is_listed (Some n) list = list_any (λ m. m == n) list
