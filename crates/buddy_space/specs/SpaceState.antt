-- What is known of a space, and what each call makes of it. This project's own.
use Rattle.std.specs.Prelude.{◌≤◌, ◌<◌, ℕ, ◌+◌, ◌-◌, ◌*◌, ◌%◌, ◌^◌, Bool, cond, not, ◌&&◌, ◌==◌, nat_lt, List, [], ◌∷◌, ◌++◌, filter}
use Rattle.space_model.specs.Sizes.{segment_units}
use Rattle.space_model.specs.Runs.{Run, is_free}
use Rattle.space_model.specs.Apart.{In, Pairs, Apart, IsRun}

pub record SpaceState : Type 0 where
  pub segments : ℕ
  -- ascending by their first units
  pub taken : List Run
  -- in the order in which they were deferred
  pub deferred : List Run
  -- so many more runs can be deferred
  pub spare : ℕ

abbrev pub most_segments : ℕ
most_segments = 8000

abbrev pub largest_exp : ℕ
largest_exp = 12

abbrev pub units : SpaceState → ℕ
units s = segment_units * s.segments

-- all other units are free
abbrev pub held : SpaceState → List Run
held s = s.taken ++ s.deferred

-- an aligned run of the segments that meets no held one
abbrev pub is_free_run : SpaceState → Run → Bool
is_free_run s r = (r.unit % 2 ^ r.exp == 0) && is_free (units s) (held s) r

abbrev pub Before : Run → Run → Type 0
Before r q = r.unit < q.unit

-- Free, deferred and taken runs part the units.
pub record IsParted (s : SpaceState) : Type 0 where
  pub most : s.segments ≤ most_segments
  -- each held run is aligned and lies in the segments, and no two of them meet
  pub runs : (r : Run) → In r (held s) → IsRun largest_exp (units s) r
  pub apart : Pairs Apart (held s)
  pub ascending : Pairs Before s.taken

-- ---- one more run, and one fewer

-- among runs that ascend, in its place
abbrev pub with_run : Run → List Run → List Run
with_run r [] = r ∷ []
with_run r (q ∷ qs) = cond (nat_lt r.unit q.unit) (r ∷ q ∷ qs) (q ∷ with_run r qs)

abbrev pub is_same : Run → Run → Bool
is_same r q = (r.unit == q.unit) && (r.exp == q.exp)

abbrev pub without : Run → List Run → List Run
without r runs = filter (λ q. not (is_same r q)) runs

-- ---- what a call makes of it

abbrev pub no_segments : SpaceState
no_segments = record { segments = 0; taken = []; deferred = []; spare = 0 }

abbrev pub with_segment : SpaceState → SpaceState
with_segment s = record s { segments = s.segments + 1 }

-- a free run is taken
abbrev pub taking : SpaceState → Run → SpaceState
taking s r = record s { taken = with_run r s.taken }

-- a taken run is free again
abbrev pub giving : SpaceState → Run → SpaceState
giving s r = record s { taken = without r s.taken }

-- a taken run is deferred
abbrev pub deferring : SpaceState → Run → SpaceState
deferring s r = record s { taken = without r s.taken; deferred = s.deferred ++ r ∷ []; spare = s.spare - 1 }

-- all deferred runs are free
abbrev pub settling : SpaceState → SpaceState
settling s = record s { deferred = [] }

abbrev pub with_spare : ℕ → SpaceState → SpaceState
with_spare n s = record s { spare = n }
