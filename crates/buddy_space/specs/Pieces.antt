-- The largest aligned runs of free units, and the first of them that is large enough.
use Rattle.std.specs.Prelude.{◌≡◌, ◌≤◌, ◌<◌, ◌⊎◌, ℕ, ◌%◌, ◌^◌, cond, nat_lt, nat_le, List, Option, Some, None}
use Rattle.space_model.specs.Runs.{Run, end_of}
use Rattle.space_model.specs.Apart.{Precedes}
use Rattle.buddy_space.specs.declared.marks.Mark.{Mark}
use Rattle.buddy_space.specs.declared.marks.Run.{Run as UnitRun}
use Rattle.buddy_space.specs.declared.marks.Mark.TheVariants.{Free}
use Rattle.buddy_space.specs.Marks.{mark_at, AreFree, run_of}

-- a run of free units that lies in no larger one, of at most this exponent
pub record IsPiece (largest : ℕ) (marks : List Mark) (r : Run) : Type 0 where
  pub exp : r.exp ≤ largest
  pub aligned : r.unit % 2 ^ r.exp ≡ 0
  pub free : AreFree marks r
  pub maximal : (q : Run) → q.exp ≤ largest → q.unit % 2 ^ q.exp ≡ 0 → r.exp < q.exp → q.unit ≤ r.unit → end_of r ≤ end_of q → AreFree marks q → ⊥

-- no piece between two units precedes this one
pub record IsFirst (largest : ℕ) (marks : List Mark) (wanted from end : ℕ) (r : Run) : Type 0 where
  pub enough : wanted ≤ r.exp
  pub begins : from ≤ r.unit
  pub ends : end_of r ≤ end
  pub piece : IsPiece largest marks r
  pub first : (q : Run) → IsPiece largest marks q → wanted ≤ q.exp → from ≤ q.unit → end_of q ≤ end → Precedes r q

-- the first piece between two units that has at least the wanted exponent, if there is one
abbrev pub IsBest : ℕ → List Mark → ℕ → ℕ → ℕ → Option UnitRun → Type 0
IsBest largest marks wanted from end None = (q : Run) → IsPiece largest marks q → wanted ≤ q.exp → from ≤ q.unit → end_of q ≤ end → ⊥
IsBest largest marks wanted from end (Some r) = IsFirst largest marks wanted from end (run_of r)

-- of a lower one and a higher one, if they are there, the one that precedes
abbrev pub better : Option UnitRun → Option UnitRun → Option UnitRun
better None upper = upper
better (Some l) None = Some l
better (Some l) (Some u) = cond (nat_lt u.exp l.exp) (Some u) (Some l)

-- the same with a piece above, where it is large enough
abbrev pub with_piece : Option UnitRun → UnitRun → ℕ → Option UnitRun
with_piece best piece wanted = cond (nat_le wanted piece.exp) (better best (Some piece)) best

-- ---- stretches of free units

-- no aligned run of free units lies on both sides of a unit's beginning
abbrev pub IsCut : List Mark → ℕ → Type 0
IsCut marks unit = (q : Run) → q.exp ≤ 12 → q.unit % 2 ^ q.exp ≡ 0 → AreFree marks q → (end_of q ≤ unit) ⊎ (unit ≤ q.unit)

-- units are free until one that is not
pub record IsFreeUntil (marks : List Mark) (first end : ℕ) : Type 0 where
  pub free : (unit : ℕ) → first ≤ unit → unit < end → mark_at marks unit ≡ Free
  pub ends : mark_at marks end ≡ Free → ⊥

-- and no aligned run of free units reaches below the first of them
pub record IsStretch (marks : List Mark) (first end : ℕ) : Type 0 where
  pub cut : IsCut marks first
  pub until : IsFreeUntil marks first end
