-- The least number with a property.
use Rattle.std.specs.Prelude.{ℕ, zero, suc, ◌+◌, ◌^◌, Bool, true, false, nat_lt}

abbrev pub or_next : Bool → ℕ → (ℕ → ℕ) → ℕ
or_next true n next = n
or_next false n next = next (n + 1)

-- The least number that passes a test, of this one and so many behind it. The last of them where none does.
abbrev pub least_from : (ℕ → Bool) → ℕ → ℕ → ℕ
least_from test n zero = n
least_from test n (suc more) = or_next (test n) n (λ m. least_from test m more)

-- the exponent of the greatest power of two that is at most a number from 1 on
abbrev pub log2 : ℕ → ℕ
log2 n = least_from (λ e. nat_lt n (2 ^ (e + 1))) 0 n
