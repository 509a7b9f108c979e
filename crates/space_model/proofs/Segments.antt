-- Lemmas: a run lies in one segment.
use Rattle.std.proofs.Common.{◌≡◌, ◌≤◌, ◌<◌, ℕ, suc, ◌+◌, ◌-◌, ◌*◌, ◌/◌, ◌%◌, ◌^◌, ap, ◌∙◌, arith}
use Rattle.std.proofs.Math.Nat.{mul-le-mul_right}
use Rattle.std.proofs.lemmas.Nat.{pow_pos, pow-add, div-add-mod', mod_below}
use Rattle.space_model.specs.Runs.{Run}
use Rattle.space_model.specs.Apart.{IsRun, InSegment}
use Rattle.space_model.proofs.FreeRuns.{multiple}

-- so many runs of a size, of which so many make a segment
in_one : (unit size i s j per segment : ℕ) → unit ≡ i * size → i ≡ s * per + j → j < per → segment ≡ per * size
    → (s * segment ≤ unit) × (unit + size ≤ suc s * segment)
in_one unit size i s j per segment is whole less same =
    let times : i * size ≡ (s * per + j) * size = ap (λ n. n * size) whole in
    let all : s * segment ≡ s * (per * size) = ap (λ n. s * n) same in
    let more : (j + 1) * size ≤ per * size = mul-le-mul_right size (omega (arith, less)) in
    (omega (arith, is, times, all), omega (arith, is, times, all, more, same))

pub run_in_segment : (top units : ℕ) (r : Run) → IsRun top units r → InSegment (2 ^ top) r
run_in_segment top units r is =
    let fits = is.exp in
    let split : top ≡ (top - r.exp) + r.exp = omega (arith, fits) in
    let same : 2 ^ top ≡ 2 ^ (top - r.exp) * 2 ^ r.exp = ap (λ n. 2 ^ n) split ∙ pow-add 2 (top - r.exp) r.exp in
    let digits = div-add-mod' (r.unit / 2 ^ r.exp) (2 ^ (top - r.exp)) in
    let p = in_one r.unit (2 ^ r.exp) (r.unit / 2 ^ r.exp) (r.unit / 2 ^ r.exp / 2 ^ (top - r.exp)) (r.unit / 2 ^ r.exp % 2 ^ (top - r.exp))
    (2 ^ (top - r.exp)) (2 ^ top)
    (multiple r.unit r.exp is.aligned) (omega (arith, digits)) (mod_below (r.unit / 2 ^ r.exp) (2 ^ (top - r.exp)) (pow_pos (top - r.exp))) same in
    record { segment = r.unit / 2 ^ r.exp / 2 ^ (top - r.exp); begins = p.0; ends = p.1 }
