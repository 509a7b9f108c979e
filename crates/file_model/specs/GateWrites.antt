-- What differs between two images where only gates of some units were written. This project's own.
use Rattle.std.specs.Prelude.{◌≡◌, ◌≤◌, ◌<◌, ℕ, true, false, List, [], ◌∷◌, map, length}
use Rattle.host_model.specs.Writes.{Write}
use Rattle.file_model.specs.declared.head.Head.{Head}
use Rattle.file_model.specs.Layout.{gate_at, segment_end, is_open_at}
use Rattle.file_model.specs.Header.{located}
use Rattle.file_model.specs.View.{units_in}
use Rattle.file_model.specs.Gates.{is_among}

-- a gate is written as one byte
abbrev pub gate_write : ℕ → ℕ → ℕ → Write
gate_write per_segment byte u = record { at = gate_at per_segment u; bytes = byte ∷ [] }

abbrev pub gate_writes : ℕ → ℕ → List ℕ → List Write
gate_writes per_segment byte us = map (gate_write per_segment byte) us

-- the segments of these units lie wholly in an image
abbrev pub AreWhole : ℕ → List ℕ → List ℕ → Type 0
AreWhole per_segment us image = (u : ℕ) → is_among us u ≡ true → segment_end per_segment u ≤ length image

-- the gates of these units are open in an image, or closed
abbrev pub AreOpen : ℕ → List ℕ → List ℕ → Type 0
AreOpen per_segment us image = (u : ℕ) → is_among us u ≡ true → is_open_at image (gate_at per_segment u) ≡ true

abbrev pub AreClosed : ℕ → List ℕ → List ℕ → Type 0
AreClosed per_segment us image = (u : ℕ) → is_among us u ≡ true → is_open_at image (gate_at per_segment u) ≡ false

-- no others than the gates of these units differ
pub record OnlyGatesDiffer (per_segment : ℕ) (us old new : List ℕ) : Type 0 where
  pub long : length new ≡ length old
  pub header : located new ≡ located old
  pub gates : (u : ℕ) → is_among us u ≡ false → is_open_at new (gate_at per_segment u) ≡ is_open_at old (gate_at per_segment u)
  -- whatever the header is that it is seen with
  pub behind : (h : Head) (u : ℕ) → u < (units_in per_segment h old).count
      → (units_in per_segment h new).stands u ≡ (units_in per_segment h old).stands u
