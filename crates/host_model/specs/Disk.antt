-- What writes do to a file, and what a stop may make of them. All of it is this project's own.
use Rattle.std.specs.Prelude.{◌≡◌, ◌≤◌, ◌+◌, ◌++◌, ◌&&◌, ◌||◌, ℕ, Bool, false, max, nat_lt, nat_le, List, [], ◌∷◌, length, take, drop, slice_get, IsTrue, Option, Some, None}
use Rattle.std.specs.List.{list_all}

-- whether each of them is a byte
abbrev pub are_bytes : List ℕ → Bool
are_bytes xs = list_all (λ b. nat_lt b 256) xs

-- the file after a write of these bytes, which may reach past its end
abbrev pub written_at : ℕ → List ℕ → List ℕ → List ℕ
written_at at bytes file = take at file ++ bytes ++ drop (at + length bytes) file

-- a range of places in a file: the first, and how many
pub record Range : Type 0 where
  pub from : ℕ
  pub count : ℕ

abbrev pub range : ℕ → ℕ → Range
range at n = record { from = at; count = n }

abbrev pub is_in : Range → ℕ → Bool
is_in r k = nat_le r.from k && nat_lt k (r.from + r.count)

-- whether one of the ranges has this place
abbrev pub in_doubt : List Range → ℕ → Bool
in_doubt [] k = false
in_doubt (r ∷ rs) k = is_in r k || in_doubt rs k

-- the greatest of a length and the ends of the ranges
abbrev pub furthest : ℕ → List Range → ℕ
furthest len [] = len
furthest len (r ∷ rs) = max (furthest len rs) (r.from + r.count)

-- The new file is the old one outside these ranges, no shorter, and no longer than they reach.
pub record DiffersIn (ranges : List Range) (old new : List ℕ) : Type 0 where
  pub outside : (k : ℕ) → in_doubt ranges k ≡ false → slice_get new k ≡ slice_get old k
  pub no_shorter : length old ≤ length new
  pub no_longer : length new ≤ furthest (length old) ranges

-- What a stop may leave of a file that was last synced as this one, with these ranges written since: outside them
-- its bytes, in them any.
pub record IsImage (ranges : List Range) (synced image : List ℕ) : Type 0 where
  pub differs : DiffersIn ranges synced image
  pub bytes : IsTrue (are_bytes image)

-- what holds of a value where it is told
abbrev pub WhereTold : {A : Type 0} → Option A → (A → Type 0) → Type 0
WhereTold {A} told P = (x : A) → told ≡ Some x → P x

-- told before and after, and then so related; or neither time
pub record Changes (R : List ℕ → List ℕ → Type 0) (old new : Option (List ℕ)) : Type 0 where
  pub told : (x : List ℕ) → old ≡ Some x → (y : List ℕ) × (new ≡ Some y) × R x y
  pub untold : old ≡ None → new ≡ None
