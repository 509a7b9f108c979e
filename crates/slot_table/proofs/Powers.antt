-- The exponent of a power of two that is at most a number, while the next one is greater.
use Rattle.std.proofs.Common.{◌≡◌, ◌≤◌, ◌<◌, ⊎_elim, ℕ, suc, ◌+◌, ◌-◌, ◌^◌, ◌∙◌, subst, arith}
use Rattle.std.proofs.Math.Pow.{pow_mono}
use Rattle.std.proofs.lemmas.Bool.{cases_order}
use Rattle.std.proofs.lemmas.Nat.{leading_top}
use Rattle.std.specs.Int.Count.{count_leading_zeros}

-- there is one
one_exponent : (n a b : ℕ) → 2 ^ a ≤ n → n < 2 ^ (a + 1) → 2 ^ b ≤ n → n < 2 ^ (b + 1) → a ≡ b
one_exponent n a b low high least most = ⊎_elim (λ (same : a ≡ b). same)
    (λ apart. ⊎_elim
    (λ (l : a < b). absurd (let more : 2 ^ (a + 1) ≤ 2 ^ b = pow_mono (omega arith) in omega arith))
    (λ (l : b < a). absurd (let more : 2 ^ (b + 1) ≤ 2 ^ a = pow_mono (omega arith) in omega arith)) apart)
    (cases_order a b)

-- it is what leading zeros leave of 32 bits
pub exponent_from_zeros : (n e : ℕ) → 1 ≤ n → n < 2 ^ 32 → 2 ^ e ≤ n → n < 2 ^ (e + 1) → 31 - count_leading_zeros 32 n ≡ e
exponent_from_zeros n e some fits low high =
    let top = leading_top 32 n some fits in
    let is : 31 - count_leading_zeros 32 n ≡ top.0 = omega (arith, top.1) in
    let next : suc top.0 ≡ top.0 + 1 = omega arith in
    is ∙ one_exponent n top.0 e top.2 (subst (λ m. n < 2 ^ m) next top.3) low high
