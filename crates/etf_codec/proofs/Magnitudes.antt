-- Magnitudes of integers, as formats read them.
use Rattle.std.proofs.Common.{◌≡◌, ℕ, zero, suc, ◌+◌, ◌*◌, ◌-◌, ◌^◌, ◌<◌, ◌≤◌, true, false, Ok, Err, ap, ◌∙◌, arith, nat_le}
use Rattle.std.proofs.lemmas.Bool.Decides.{nat_tests}
use Rattle.std.proofs.Math.Nat.{pow-le-pow_right, mul-le-mul}
use Rattle.etf_model.specs.declared.fault.EtfFault.{EtfFault}
use Rattle.etf_model.specs.declared.fault.EtfFault.TheVariants.{IntegerRange}
use Rattle.etf_model.specs.Format.{Position, byte, judged}
use Rattle.etf_model.specs.Spelling.{magnitude_after}
use Rattle.etf_codec.proofs.Bytes.{go_on_ok, go_on_err}

-- a byte at one of sixteen indices weighs less than 2 ^ 128
pub part_fits : (index digit : ℕ) → index < 16 → digit < 256 → 256 ^ index * digit < 2 ^ 128
part_fits index digit h d =
    let weight : 256 ^ index ≤ 256 ^ 15 = pow-le-pow_right {n = 256} (omega arith) {i = index} {j = 15} (omega arith) in
    let whole : 256 ^ index * digit ≤ 256 ^ 15 * 255 = mul-le-mul {m₁ = digit} {m₂ = 255} weight (omega arith) in
    omega arith

pub weight_fits : (index : ℕ) → index < 16 → 256 ^ index < 2 ^ 128
weight_fits index h =
    let weight : 256 ^ index ≤ 256 ^ 15 = pow-le-pow_right {n = 256} (omega arith) {i = index} {j = 15} (omega arith) in
    omega arith

-- and one that is not 0 at a later index at least that
pub part_passes : (index digit : ℕ) → 16 ≤ index → 0 < digit → 2 ^ 128 ≤ 256 ^ index * digit
part_passes index digit h d =
    let weight : 256 ^ 16 ≤ 256 ^ index = pow-le-pow_right {n = 256} (omega arith) {i = 16} {j = index} h in
    let whole : 256 ^ 16 * 1 ≤ 256 ^ index * digit = mul-le-mul {m₁ = 1} {m₂ = digit} weight (omega arith) in
    omega arith

-- one more byte within the limit
pub magnitude_more : (most weight m n : ℕ) (term : ℕ) (position : Position) (x : ℕ) (behind : Position) → 0 < n → byte.read term position ≡ Ok (x, behind)
    → m + weight * x ≤ most
    → (magnitude_after most weight m n).read term position ≡ (magnitude_after most (256 * weight) (m + weight * x) (n - 1)).read term behind
magnitude_more most weight m zero term position x behind h e le = absurd (omega arith)
magnitude_more most weight m (suc n) term position x behind h e le =
    let passes : nat_le (m + weight * x) most ≡ true = grind (arith, nat_tests) in
    let byte_passes : judged (nat_le (m + weight * x) most) (IntegerRange term) x behind ≡ Ok (x, behind) = rw passes in
    go_on_ok _ _ _ _ (go_on_ok _ _ _ _ e ∙ byte_passes)
    ∙ ap (λ k. (magnitude_after most (256 * weight) (m + weight * x) k).read term behind) (omega arith)

-- a byte with which the limit is passed
pub magnitude_passes : (most weight m n : ℕ) (term : ℕ) (position : Position) (x : ℕ) (behind : Position) → 0 < n → byte.read term position ≡ Ok (x, behind)
    → most < m + weight * x
    → (magnitude_after most weight m n).read term position ≡ Err (IntegerRange term)
magnitude_passes most weight m zero term position x behind h e lt = absurd (omega arith)
magnitude_passes most weight m (suc n) term position x behind h e lt =
    let fails : nat_le (m + weight * x) most ≡ false = grind (arith, nat_tests) in
    let byte_fails : judged (nat_le (m + weight * x) most) (IntegerRange term) x behind ≡ Err (IntegerRange term) = rw fails in
    go_on_err _ _ _ (go_on_ok _ _ _ _ e ∙ byte_fails)

-- no byte more
pub magnitude_fails : (most weight m n : ℕ) (term : ℕ) (position : Position) (fault : EtfFault) → 0 < n → byte.read term position ≡ Err fault
    → (magnitude_after most weight m n).read term position ≡ Err fault
magnitude_fails most weight m zero term position fault h e = absurd (omega arith)
magnitude_fails most weight m (suc n) term position fault h e = go_on_err _ _ _ (go_on_err _ _ _ e)
