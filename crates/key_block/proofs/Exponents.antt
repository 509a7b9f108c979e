-- The exponent of the least block with room.
use Rattle.std.proofs.Common.{◌≡◌, ◌≤◌, ◌<◌, ⊎_elim, ℕ, ◌+◌, ◌*◌, ◌^◌, arith}
use Rattle.std.proofs.lemmas.Bool.{cases_order}
use Rattle.space_model.specs.Sizes.{unit_size, head_size}
use Rattle.space_model.specs.Ledger.{exponent}

-- a block has room, and no smaller one has
pub least_exponent : (bytes e : ℕ) → head_size + bytes ≤ unit_size * 2 ^ exponent bytes
    → ((j : ℕ) → j < exponent bytes → unit_size * 2 ^ j < head_size + bytes)
    → head_size + bytes ≤ unit_size * 2 ^ e → ((j : ℕ) → j < e → unit_size * 2 ^ j < head_size + bytes) → e ≡ exponent bytes
least_exponent bytes e room none here below = ⊎_elim (λ (same : e ≡ exponent bytes). same)
    (λ apart. ⊎_elim
    (λ (l : e < exponent bytes). absurd (let less = none e l in omega arith))
    (λ (l : exponent bytes < e). absurd (let less = below (exponent bytes) l in omega arith)) apart)
    (cases_order e (exponent bytes))
