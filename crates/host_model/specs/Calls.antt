-- The calls that a host in memory has kept, newest first, and what a stop leaves after them or within the one that
-- goes on. All of it is this project's own.
use Rattle.std.specs.Prelude.{◌≤◌, ◌+◌, ◌++◌, ◌&&◌, ◌⊎◌, ℕ, Bool, nat_le, List, [], ◌∷◌, length, Option, Some, None, IsTrue}
use Rattle.host_model.specs.Disk.{Range, range, written_at, are_bytes, IsImage}
use Rattle.host_model.specs.Host.{Left, IsGrown}

-- a call that moved the clock
pub data Call : Type 0 where
  Wrote : ℕ → List ℕ → Call
  Synced : Call
  Put : List ℕ → Call

-- the file as it reads after these calls
abbrev pub file_after : List ℕ → List Call → List ℕ
file_after file [] = file
file_after file (Wrote at bytes ∷ calls) = written_at at bytes (file_after file calls)
file_after file (Synced ∷ calls) = file_after file calls
file_after file (Put piece ∷ calls) = file_after file calls

-- the output said
abbrev pub said_after : List ℕ → List Call → List ℕ
said_after output [] = output
said_after output (Wrote at bytes ∷ calls) = said_after output calls
said_after output (Synced ∷ calls) = said_after output calls
said_after output (Put piece ∷ calls) = said_after output calls ++ piece

-- the file as of the last sync
abbrev pub synced_after : List ℕ → List Call → List ℕ
synced_after file [] = file
synced_after file (Wrote at bytes ∷ calls) = synced_after file calls
synced_after file (Synced ∷ calls) = file_after file calls
synced_after file (Put piece ∷ calls) = synced_after file calls

-- the ranges written since
abbrev pub unsynced : List Call → List Range
unsynced [] = []
unsynced (Wrote at bytes ∷ calls) = range at (length bytes) ∷ unsynced calls
unsynced (Synced ∷ calls) = []
unsynced (Put piece ∷ calls) = unsynced calls

-- Whether calls can have made this: all is bytes, and no write begins past the end.
abbrev pub is_possible : List ℕ → List Call → Bool
is_possible file [] = are_bytes file
is_possible file (Wrote at bytes ∷ calls) = is_possible file calls && (are_bytes bytes && nat_le at (length (file_after file calls)))
is_possible file (Synced ∷ calls) = is_possible file calls
is_possible file (Put piece ∷ calls) = is_possible file calls

-- the range that the call in progress writes, and the piece that it says
abbrev pub ranges_of : Option Call → List Range
ranges_of (Some (Wrote at bytes)) = range at (length bytes) ∷ []
ranges_of (Some Synced) = []
ranges_of (Some (Put piece)) = []
ranges_of None = []

abbrev pub piece_of : Option Call → List ℕ
piece_of (Some (Put piece)) = piece
piece_of (Some Synced) = []
piece_of (Some (Wrote at bytes)) = []
piece_of None = []

-- What a stop leaves after these calls, while another one may go on: outside the ranges written since the last sync,
-- with that of the one that goes on, the bytes as of that sync. It is told where calls can have made this.
pub record LeftAfter (origin : Left) (calls : List Call) (running : Option Call) (c : Left) : Type 0 where
  pub possible : IsTrue (is_possible origin.image calls)
  pub image : IsImage (ranges_of running ++ unsynced calls) (synced_after origin.image calls) c.image
  pub output : IsGrown (piece_of running) (said_after origin.output calls) c.output

-- what a stop may have left since so many calls: after the last one, within it, or before it
abbrev pub LeftSince : Left → List Call → ℕ → Left → Type 0
LeftSince origin [] t c = (t ≤ 0) × LeftAfter origin [] None c
LeftSince origin (call ∷ calls) t c =
    ((t ≤ length calls + 1) × LeftAfter origin (call ∷ calls) None c) ⊎ (((t ≤ length calls) × LeftAfter origin calls (Some call) c)
    ⊎ LeftSince origin calls t c)
