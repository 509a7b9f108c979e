-- Lemmas: the parts of a file do not meet. A segment has at least one unit.
use Rattle.std.specs.Prelude.{◌≡◌, ◌≤◌, ◌<◌, ◌⊎◌, ℕ, suc, ◌+◌, ◌-◌, ◌*◌, ◌/◌, ◌%◌, ◌^◌, List, length}
use Rattle.std.proofs.Common.{arith, ap, ◌∙◌, inl, inr, ⊎_elim}
use Rattle.std.proofs.Math.Nat.{mul-suc, div-add-mod, mod-mod_of_dvd, mul-mod_right}
use Rattle.std.proofs.lemmas.Nat.{mul-le, mod_below, pow_pos, pow_below, pow-add}
use Rattle.std.proofs.lemmas.Nat.Gcd.{dvd_of_mod-eq-zero}
use Rattle.std.proofs.lemmas.Bool.{cases_lt}
use Rattle.space_model.specs.Sizes.{unit_size}
use Rattle.file_model.specs.Layout.{page_size, segment_size, segment_at, gate_at, unit_at, segment_end, whole_segments}

-- ---- numbers

product_more : (w s t : ℕ) → s ≤ t → w * s ≤ w * t
product_more w s t l = mul-le w s w t (omega arith) l

product_next : (w s : ℕ) → w * (s + 1) ≡ w * s + w
product_next w s = let next : s + 1 ≡ suc s = omega arith in ap (λ x. w * x) next ∙ mul-suc w s

product_step : (w s t : ℕ) → s < t → w * s + w ≤ w * t
product_step w s t l =
    let more = product_more w (s + 1) t (omega arith) in
    let next = product_next w s in
    omega arith

product_below : (w s t : ℕ) → w * s < w * t → s < t
product_below w s t l = ⊎_elim
    (λ less. less)
    (λ other. absurd (let more = product_more w t s other in omega arith))
    (cases_lt s t)

-- a number by the segment that it lies in and its place there
pub record Placed (per_segment u : ℕ) : Type 0 where
  pub whole : per_segment * (u / per_segment) + u % per_segment ≡ u
  pub below : u % per_segment < per_segment

pub placed : (n u : ℕ) → 0 < n → Placed n u
placed n u some = record { whole = div-add-mod u n; below = mod_below u n some }

-- ---- segments

pub segment_after : (n s t : ℕ) → s < t → segment_at n s + segment_size n ≤ segment_at n t
segment_after n s t l = let step = product_step (segment_size n) s t l in omega arith

pub segment_no_later : (n s t : ℕ) → s ≤ t → segment_at n s ≤ segment_at n t
segment_no_later n s t l = let more = product_more (segment_size n) s t l in omega arith

pub segment_ends : (n u : ℕ) → segment_end n u ≡ segment_at n (u / n) + segment_size n
segment_ends n u = let next = product_next (segment_size n) (u / n) in omega arith

-- ---- gates and units in their segments

pub record InSegment (per_segment u : ℕ) : Type 0 where
  pub gate_from : segment_at per_segment (u / per_segment) ≤ gate_at per_segment u
  pub gate_below : gate_at per_segment u < segment_at per_segment (u / per_segment) + per_segment
  pub unit_from : segment_at per_segment (u / per_segment) + per_segment ≤ unit_at per_segment u
  pub unit_ends : unit_at per_segment u + unit_size ≤ segment_end per_segment u
  pub gate_behind_page : page_size ≤ gate_at per_segment u
  pub unit_behind_page : page_size ≤ unit_at per_segment u

pub in_segment : (n u : ℕ) → 0 < n → InSegment n u
in_segment n u some =
    let p = placed n u some in
    let e = segment_ends n u in
    record {
      gate_from = omega arith;
      gate_below = omega (arith, p.below);
      unit_from = omega arith;
      unit_ends = omega (arith, p.below, e);
      gate_behind_page = omega arith;
      unit_behind_page = omega arith;
    }

-- a gate is in no unit's bytes, nor behind a unit in its segment
pub gate_apart_from_unit : (n u w : ℕ) → 0 < n → (gate_at n u < unit_at n w) ⊎ (segment_end n w ≤ gate_at n u)
gate_apart_from_unit n u w some =
    let a = in_segment n u some in
    let b = in_segment n w some in
    let e = segment_ends n w in
    ⊎_elim
    (λ less. let s = segment_after n (u / n) (w / n) less in inl (omega (arith, a.gate_below, b.unit_from, s)))
    (λ other. ⊎_elim
    (λ more. let s = segment_after n (w / n) (u / n) more in inr (omega (arith, a.gate_from, e, s)))
    (λ same.
    let is : u / n ≡ w / n = omega arith in
    let at : segment_at n (u / n) ≡ segment_at n (w / n) = ap (λ x. segment_at n x) is in
    inl (omega (arith, a.gate_below, b.unit_from, at)))
    (cases_lt (w / n) (u / n)))
    (cases_lt (u / n) (w / n))

-- two units have two gates
pub gates_apart : (n u w : ℕ) → 0 < n → gate_at n u ≡ gate_at n w → u ≡ w
gates_apart n u w some same =
    let a = in_segment n u some in
    let b = in_segment n w some in
    ⊎_elim
    (λ less. absurd (let s = segment_after n (u / n) (w / n) less in omega (arith, a.gate_below, b.gate_from, s)))
    (λ other. ⊎_elim
    (λ more. absurd (let s = segment_after n (w / n) (u / n) more in omega (arith, b.gate_below, a.gate_from, s)))
    (λ none.
    let is : u / n ≡ w / n = omega arith in
    let at : segment_at n (u / n) ≡ segment_at n (w / n) = ap (λ x. segment_at n x) is in
    let first : n * (u / n) ≡ n * (w / n) = ap (λ x. n * x) is in
    let p = placed n u some in
    let q = placed n w some in
    omega (arith, p.whole, q.whole, first, at))
    (cases_lt (w / n) (u / n)))
    (cases_lt (u / n) (w / n))

-- so many units, from one on, end in its segment
abbrev pub EndsInSegment : (per_segment u units : ℕ) → Type 0
EndsInSegment per_segment u units = unit_at per_segment u + unit_size * units ≤ segment_end per_segment u

-- the bytes of some units, as far as their segment goes, end before each unit behind them
pub run_before : (n u w units end : ℕ) → 0 < n → u + units ≤ w → end ≤ unit_at n u + unit_size * units → end ≤ segment_end n u
    → end ≤ unit_at n w
run_before n u w units end some l run segment =
    let b = in_segment n w some in
    let e = segment_ends n u in
    let p = placed n u some in
    let q = placed n w some in
    ⊎_elim
    (λ less. let s = segment_after n (u / n) (w / n) less in omega (arith, e, s, b.unit_from))
    (λ other. ⊎_elim
    (λ more. absurd (let s = product_step n (w / n) (u / n) more in omega (arith, p.whole, q.whole, q.below, s)))
    (λ none.
    let is : u / n ≡ w / n = omega arith in
    let at : segment_at n (u / n) ≡ segment_at n (w / n) = ap (λ x. segment_at n x) is in
    let first : n * (u / n) ≡ n * (w / n) = ap (λ x. n * x) is in
    omega (arith, p.whole, q.whole, first, at))
    (cases_lt (w / n) (u / n)))
    (cases_lt (u / n) (w / n))

-- runs that do not meet have no byte in common
pub runs_apart : (n u w units : ℕ) → 0 < n → EndsInSegment n u units → u + units ≤ w → unit_at n u + unit_size * units ≤ unit_at n w
runs_apart n u w units some ends l = run_before n u w units (unit_at n u + unit_size * units) some l (omega arith) ends

-- a run of units that begins at a multiple of their number ends in its segment, where that number parts a segment
aligned_ends : (n u units : ℕ) → 0 < n → 0 < units → n % units ≡ 0 → u % units ≡ 0 → EndsInSegment n u units
aligned_ends n u units some least parts aligned =
    let p = placed n u some in
    let place : u % n % units ≡ 0 = mod-mod_of_dvd units u (dvd_of_mod-eq-zero units parts) ∙ aligned in
    let of_place = div-add-mod (u % n) units in
    let of_all = div-add-mod n units in
    let below : u % n / units < n / units = product_below units (u % n / units) (n / units) (omega (arith, p.below)) in
    let step = product_step units (u % n / units) (n / units) below in
    let e = segment_ends n u in
    omega arith

power_parts : (q e : ℕ) → 2 ^ e ≤ 2 ^ q → 2 ^ q % 2 ^ e ≡ 0
power_parts q e l =
    let low : e ≤ q = ⊎_elim (λ more. absurd (let b = pow_below q e more in omega arith)) (λ less. less) (cases_lt q e) in
    let sum : q ≡ e + (q - e) = omega arith in
    ap (λ x. 2 ^ x % 2 ^ e) sum ∙ ap (λ x. x % 2 ^ e) (pow-add 2 e (q - e)) ∙ mul-mod_right (2 ^ e) (2 ^ (q - e))

-- so does a block's, which is no larger than a segment and aligned
pub run_ends : (q u exp : ℕ) → 2 ^ exp ≤ 2 ^ q → u % 2 ^ exp ≡ 0 → EndsInSegment (2 ^ q) u (2 ^ exp)
run_ends q u exp l aligned = aligned_ends (2 ^ q) u (2 ^ exp) (pow_pos q) (pow_pos exp) (power_parts q exp l) aligned

-- ---- in an image

-- the segments that lie wholly in an image end in it
pub whole_ends : (n s : ℕ) (image : List ℕ) → 0 < n → 0 < s → s ≤ whole_segments n image → segment_at n s ≤ length image
whole_ends n s image some first l =
    let w = segment_size n in
    let size : 0 < w = omega arith in
    let d = div-add-mod (length image - page_size) w in
    let more = product_more w s (whole_segments n image) l in
    let one = product_step w 0 s first in
    omega (arith, d, more, one)

-- a unit below those of some segments lies in one of them
pub segment_below : (n u s : ℕ) → 0 < n → u < n * s → u / n < s
segment_below n u s some l = let p = placed n u some in product_below n (u / n) s (omega (arith, p.whole))

-- the segment of a unit in segments that lie wholly in an image ends in it
pub unit_whole : (n u s : ℕ) (image : List ℕ) → 0 < n → u < n * s → s ≤ whole_segments n image → segment_end n u ≤ length image
unit_whole n u s image some l whole =
    let below = segment_below n u s some l in
    let first : 0 < s = omega arith in
    let ends = whole_ends n s image some first whole in
    let later = segment_no_later n (u / n + 1) s (omega arith) in
    omega (arith, ends, later)
