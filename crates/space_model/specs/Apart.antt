-- Runs that do not meet, and where a place is. This project's own.
use Rattle.std.specs.Prelude.{◌≡◌, ◌≤◌, ◌<◌, ◌⊎◌, ℕ, suc, ◌*◌, ◌^◌, ◌%◌, true, List, [], ◌∷◌}
use Rattle.space_model.specs.Runs.{Run, run, end_of, is_maximal}

-- a member of a list
abbrev pub In : {X : Type 0} → X → List X → Type 0
In x [] = ⊥
In x (y ∷ ys) = (y ≡ x) ⊎ In x ys

-- R holds of each member and each one behind it
abbrev pub Pairs : {X : Type 0} → (X → X → Type 0) → List X → Type 0
Pairs R [] = Unit {0}
Pairs {X} R (x ∷ xs) = ((y : X) → In y xs → R x y) × Pairs R xs

-- the same members, however often and in whatever order
pub record SameMembers {X : Type 0} (xs ys : List X) : Type 0 where
  pub there : (x : X) → In x xs → In x ys
  pub back : (x : X) → In x ys → In x xs

-- one ends before the other begins
abbrev pub Apart : Run → Run → Type 0
Apart r q = (end_of r ≤ q.unit) ⊎ (end_of q ≤ r.unit)

-- A run is aligned, of at most the largest exponent, and lies in the first so many units.
pub record IsRun (largest units : ℕ) (r : Run) : Type 0 where
  pub exp : r.exp ≤ largest
  pub aligned : r.unit % 2 ^ r.exp ≡ 0
  pub ends : end_of r ≤ units

-- a run lies in one segment of so many units
pub record InSegment (segment_units : ℕ) (r : Run) : Type 0 where
  pub segment : ℕ
  pub begins : segment * segment_units ≤ r.unit
  pub ends : end_of r ≤ suc segment * segment_units

-- a maximal free run of at least this exponent
pub record HasRoom (largest units : ℕ) (held : List Run) (exp : ℕ) (r : Run) : Type 0 where
  pub enough : exp ≤ r.exp
  pub is_run : IsRun largest units r
  pub maximal : is_maximal largest units held r ≡ true

-- of two runs one is smaller, or as large and not higher
abbrev pub Precedes : Run → Run → Type 0
Precedes r q = (r.exp < q.exp) ⊎ ((r.exp ≡ q.exp) × (r.unit ≤ q.unit))

-- The place of a run of 2 ^ exp units: the front of the maximal free run of at least this size that precedes all others.
pub record IsPlace (largest units : ℕ) (held : List Run) (exp unit : ℕ) : Type 0 where
  pub size : ℕ
  pub has_room : HasRoom largest units held exp (run unit size)
  pub first : (r : Run) → HasRoom largest units held exp r → Precedes (run unit size) r
