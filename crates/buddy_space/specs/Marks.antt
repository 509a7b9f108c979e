-- One mark for each unit, and what the marks say of runs.
use Rattle.std.specs.Prelude.{◌≡◌, ◌≤◌, ◌<◌, ◌⊎◌, ℕ, suc, ◌+◌, ◌%◌, ◌^◌, List, [], ◌∷◌, map, length, get_or, Option, Some, None}
use Rattle.space_model.specs.Runs.{Run, run, end_of}
use Rattle.space_model.specs.Apart.{In, IsRun}
use Rattle.buddy_space.specs.SpaceState.{SpaceState, largest_exp, units, held, IsParted}
use Rattle.buddy_space.specs.declared.marks.Mark.{Mark}
use Rattle.buddy_space.specs.declared.marks.Mark.TheVariants.{Free, Taken, Held}
use Rattle.buddy_space.specs.declared.marks.Run.{Run as UnitRun}

abbrev pub mark_at : List Mark → ℕ → Mark
mark_at marks unit = get_or marks unit Held

-- the exponent of the taken run that begins at a unit with this mark
abbrev pub begun : Mark → Option ℕ
begun Free = None
begun (Taken exp) = Some exp
begun Held = None

abbrev pub with_begun : ℕ → Option ℕ → List Run → List Run
with_begun unit None runs = runs
with_begun unit (Some exp) runs = run unit exp ∷ runs

-- the taken runs, where the first mark is that of this unit
abbrev pub taken_from : ℕ → List Mark → List Run
taken_from unit [] = []
taken_from unit (m ∷ ms) = with_begun unit (begun m) (taken_from (suc unit) ms)

abbrev pub run_of : UnitRun → Run
run_of r = run r.unit r.exp

-- ---- units of runs

abbrev pub Has : Run → ℕ → Type 0
Has r unit = (r.unit ≤ unit) × (unit < end_of r)

abbrev pub IsOutside : Run → ℕ → Type 0
IsOutside r unit = (unit < r.unit) ⊎ (end_of r ≤ unit)

abbrev pub AreFree : List Mark → Run → Type 0
AreFree marks r = (unit : ℕ) → r.unit ≤ unit → unit < end_of r → mark_at marks unit ≡ Free

-- an aligned run of units that are there, all of them free
pub record IsUnused (marks : List Mark) (r : Run) : Type 0 where
  pub aligned : r.unit % 2 ^ r.exp ≡ 0
  pub ends : end_of r ≤ length marks
  pub free : AreFree marks r

-- the units of a run got this mark, and the others kept theirs
pub record IsFilled (old new : List Mark) (r : Run) (mark : Mark) : Type 0 where
  pub inside : (unit : ℕ) → r.unit ≤ unit → unit < end_of r → mark_at new unit ≡ mark
  pub outside : (unit : ℕ) → IsOutside r unit → mark_at new unit ≡ mark_at old unit

-- the units of a run were marked as those of a taken one, and the others kept their marks
pub record IsTaken (old new : List Mark) (r : Run) : Type 0 where
  pub begins : mark_at new r.unit ≡ Taken r.exp
  pub inside : (unit : ℕ) → r.unit < unit → unit < end_of r → mark_at new unit ≡ Held
  pub outside : (unit : ℕ) → IsOutside r unit → mark_at new unit ≡ mark_at old unit

-- ---- what a space keeps

-- the state that callers see
abbrev pub seen : ℕ → List Mark → List UnitRun → ℕ → SpaceState
seen segments marks deferred spare = record { segments = segments; taken = taken_from 0 marks; deferred = map run_of deferred; spare = spare }

-- a unit is marked as free just where no held run has it
pub record IsMarked (marks : List Mark) (s : SpaceState) : Type 0 where
  pub whole : length marks ≡ units s
  pub parted : IsParted s
  pub free : (unit : ℕ) (r : Run) → mark_at marks unit ≡ Free → In r (held s) → Has r unit → ⊥
  pub held : (unit : ℕ) → unit < units s → ((r : Run) → In r (held s) → Has r unit → ⊥) → mark_at marks unit ≡ Free

-- and the list of deferred runs has room for the spare ones, beside so many
pub record IsKept (marks : List Mark) (s : SpaceState) (count capacity : ℕ) : Type 0 where
  pub marked : IsMarked marks s
  pub room : count + s.spare ≤ capacity

-- runs of the first so many units
abbrev pub AreWithin : ℕ → List UnitRun → Type 0
AreWithin units runs = (r : Run) → In r (map run_of runs) → IsRun largest_exp units r

-- the units of these runs were marked as free, and the others kept their marks
pub record IsReleased (old new : List Mark) (runs : List Run) : Type 0 where
  pub each : (unit : ℕ) → ((mark_at new unit ≡ Free) × ((r : Run) × In r runs × Has r unit)) ⊎ ((mark_at new unit ≡ mark_at old unit) × ((r : Run) → In r runs → Has r unit → ⊥))
