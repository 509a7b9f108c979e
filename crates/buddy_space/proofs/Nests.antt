-- Aligned runs are apart, or one lies in the other.
use Rattle.std.proofs.Common.{◌≡◌, ◌≤◌, ◌<◌, ◌⊎◌, inl, inr, ⊎_elim, ℕ, suc, ◌+◌, ◌*◌, ◌/◌, ◌%◌, ◌^◌, arith}
use Rattle.std.proofs.Math.Nat.{mul-le-mul_right}
use Rattle.std.proofs.lemmas.Bool.{cases_lt}
use Rattle.space_model.specs.Runs.{Run, end_of}
use Rattle.space_model.specs.Apart.{Apart}
use Rattle.space_model.proofs.FreeRuns.{multiple, aligned_times}

fewer : (a b n : ℕ) → a * n < b * n → suc a * n ≤ b * n
fewer a b n l = ⊎_elim
    (λ (x : a < b). let m : suc a * n ≤ b * n = mul-le-mul_right n x in m)
    (λ (x : b ≤ a). absurd (let m : b * n ≤ a * n = mul-le-mul_right n x in omega (arith, l, m)))
    (cases_lt a b)

-- a multiple of a size is not inside a run of this size
next_multiple : (u v e : ℕ) → u % 2 ^ e ≡ 0 → v % 2 ^ e ≡ 0 → u < v → u + 2 ^ e ≤ v
next_multiple u v e a b l =
    let x = multiple u e a in
    let y = multiple v e b in
    let more = fewer (u / 2 ^ e) (v / 2 ^ e) (2 ^ e) (omega (arith, x, y, l)) in
    omega (arith, x, y, more)

-- a run's ends are multiples of each smaller size
pub begins_aligned : (q : Run) (e : ℕ) → q.unit % 2 ^ q.exp ≡ 0 → e ≤ q.exp → q.unit % 2 ^ e ≡ 0
begins_aligned q e a l = aligned_times q.unit (q.unit / 2 ^ q.exp) e q.exp l (multiple q.unit q.exp a)

ends_aligned : (q : Run) (e : ℕ) → q.unit % 2 ^ q.exp ≡ 0 → e ≤ q.exp → end_of q % 2 ^ e ≡ 0
ends_aligned q e a l =
    let x = multiple q.unit q.exp a in
    aligned_times (end_of q) (suc (q.unit / 2 ^ q.exp)) e q.exp l (omega (arith, x))

abbrev pub Within : Run → Run → Type 0
Within r q = (q.unit ≤ r.unit) × (end_of r ≤ end_of q)

pub nests : (r q : Run) → r.unit % 2 ^ r.exp ≡ 0 → q.unit % 2 ^ q.exp ≡ 0 → r.exp ≤ q.exp → Apart r q ⊎ Within r q
nests r q a b l = ⊎_elim
    (λ (x : r.unit < q.unit). inl (inl (next_multiple r.unit q.unit r.exp a (begins_aligned q r.exp b l) x)))
    (λ (x : q.unit ≤ r.unit). ⊎_elim
    (λ (y : r.unit < end_of q). inr (x, next_multiple r.unit (end_of q) r.exp a (ends_aligned q r.exp b l) y))
    (λ (y : end_of q ≤ r.unit). inl (inr y)) (cases_lt r.unit (end_of q)))
    (cases_lt r.unit q.unit)
