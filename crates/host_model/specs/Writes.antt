-- Writes one after another. All of it is this project's own.
use Rattle.std.specs.Prelude.{◌≡◌, ◌≤◌, ◌+◌, ◌⊎◌, ℕ, List, [], ◌∷◌, map, fold, length, slice_range}
use Rattle.host_model.specs.Disk.{Range, range, written_at}

-- a write: where it begins, and its bytes
pub record Write : Type 0 where
  pub at : ℕ
  pub bytes : List ℕ

abbrev pub end_of : Write → ℕ
end_of w = w.at + length w.bytes

abbrev pub range_of : Write → Range
range_of w = range w.at (length w.bytes)

abbrev pub ranges_of : List Write → List Range
ranges_of writes = map range_of writes

-- a file after one of them, and after all of them in order
abbrev pub with_write : List ℕ → Write → List ℕ
with_write file w = written_at w.at w.bytes file

abbrev pub with_writes : List Write → List ℕ → List ℕ
with_writes writes file = fold with_write file writes

-- each write begins inside the file as those before it leave it, or at its end
abbrev pub BeginInside : List Write → List ℕ → Type 0
BeginInside [] file = Unit {0}
BeginInside (w ∷ ws) file = (w.at ≤ length file) × BeginInside ws (with_write file w)

-- each write ends inside the file
abbrev pub LieInside : List Write → List ℕ → Type 0
LieInside [] file = Unit {0}
LieInside (w ∷ ws) file = (end_of w ≤ length file) × LieInside ws file

-- no two of the writes meet
abbrev pub IsApart : Write → List Write → Type 0
IsApart w [] = Unit {0}
IsApart w (v ∷ vs) = ((end_of w ≤ v.at) ⊎ (end_of v ≤ w.at)) × IsApart w vs

abbrev pub AreApart : List Write → Type 0
AreApart [] = Unit {0}
AreApart (w ∷ ws) = IsApart w ws × AreApart ws

-- the bytes of each write are read in the file at its place
abbrev pub ReadBack : List Write → List ℕ → Type 0
ReadBack [] file = Unit {0}
ReadBack (w ∷ ws) file = (slice_range file w.at (end_of w) ≡ w.bytes) × ReadBack ws file
