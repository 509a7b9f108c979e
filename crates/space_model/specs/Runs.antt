-- Runs of units: which are free beside held ones, and where a new one is placed. This project's own.
use Rattle.std.specs.Prelude.{ℕ, zero, suc, ◌+◌, ◌-◌, ◌*◌, ◌/◌, ◌%◌, ◌^◌, Bool, true, false, not, ◌&&◌, nat_lt, nat_le, List, Option, Some, None}
use Rattle.std.specs.List.{list_any, list_all, range_with_len}
use Rattle.space_model.specs.Least.{log2}

-- 2 ^ exp units, from a unit on that is a multiple of 2 ^ exp
pub record Run : Type 0 where
  pub unit : ℕ
  pub exp : ℕ

abbrev pub run : ℕ → ℕ → Run
run unit exp = record { unit = unit; exp = exp }

-- the first unit behind a run
abbrev pub end_of : Run → ℕ
end_of r = r.unit + 2 ^ r.exp

-- whether two runs have a unit in common
abbrev pub meets : Run → Run → Bool
meets r q = nat_lt r.unit (end_of q) && nat_lt q.unit (end_of r)

-- whether a run lies in the first so many units and meets no held run
abbrev pub is_free : ℕ → List Run → Run → Bool
is_free units held r = nat_le (end_of r) units && not (list_any (meets r) held)

-- the run of this exponent around a unit
abbrev pub run_around : ℕ → ℕ → Run
run_around unit exp = run (unit - unit % 2 ^ exp) exp

-- whether a run is free and lies in no larger free one; the largest exponent comes first
abbrev pub is_maximal : ℕ → ℕ → List Run → Run → Bool
is_maximal largest units held r =
    is_free units held r && list_all (λ e. not (is_free units held (run_around r.unit e))) (range_with_len (r.exp + 1) (largest - r.exp))

-- ---- the place of a new run

abbrev pub or_behind : Bool → ℕ → ℕ → (ℕ → Option ℕ) → Option ℕ
or_behind true unit size behind = Some unit
or_behind false unit size behind = behind (unit + size)

-- the unit of the lowest maximal free run of an exponent, among so many runs from this unit on
abbrev pub lowest : ℕ → ℕ → List Run → ℕ → ℕ → ℕ → Option ℕ
lowest largest units held exp unit zero = None
lowest largest units held exp unit (suc runs) =
    or_behind (is_maximal largest units held (run unit exp)) unit (2 ^ exp) (λ behind. lowest largest units held exp behind runs)

abbrev pub or_larger : Option ℕ → ℕ → (ℕ → Option ℕ) → Option ℕ
or_larger (Some unit) exp larger = Some unit
or_larger None exp larger = larger (exp + 1)

-- the same of the least of so many exponents, from this one on, that has such a run
abbrev pub smallest : ℕ → ℕ → List Run → ℕ → ℕ → Option ℕ
smallest largest units held exp zero = None
smallest largest units held exp (suc exps) =
    or_larger (lowest largest units held exp 0 (units / 2 ^ exp)) exp (λ larger. smallest largest units held larger exps)

-- Where a run of 2 ^ exp units is placed: of the maximal free runs of at least this size in the smallest, of these in the
-- lowest, and there at the front. None where there is no such run.
abbrev pub front_of_smallest : ℕ → ℕ → List Run → ℕ → Option ℕ
front_of_smallest largest units held exp = smallest largest units held exp (suc largest - exp)

-- The same in segments of so many units, which are a power of two. No run is larger than a segment.
abbrev pub place : ℕ → ℕ → List Run → ℕ → Option ℕ
place segment_units segments held exp = front_of_smallest (log2 segment_units) (segment_units * segments) held exp
