-- The calls that a host in memory keeps, as its code holds them and as contracts see them. All of it is this project's own.
use Rattle.std.specs.Prelude.{◌≡◌, ℕ, true, List, [], ◌∷◌, map, reverse, length}
use Rattle.host_model.specs.Host.{Left}
use Rattle.host_model.specs.Disk.{Range, range}
use Rattle.host_model.specs.Calls.{Call, file_after, said_after, is_possible}
use Rattle.host_model.specs.Calls.Call.{Wrote, Synced, Put}
use Rattle.host_model.specs.declared.log.Kept.{Kept}
use Rattle.host_model.specs.declared.log.Kept.TheVariants.{Write, Sync, Piece}

-- the file and the output that it began with, and the calls since that moved the clock, newest first
pub record LogState : Type 0 where
  pub origin : Left
  pub calls : List Call

abbrev pub with_call : Call → LogState → LogState
with_call call l = record l { calls = call ∷ l.calls }

abbrev pub call_of : Kept → Call
call_of (Write at bytes) = Wrote at bytes.items
call_of Sync = Synced
call_of (Piece bytes) = Put bytes.items

-- the code keeps the oldest first
abbrev pub newest_first : List Kept → List Call
newest_first kept = reverse (map call_of kept)

-- The file and the output are what the calls made of those at the start, and calls can have made them.
pub record IsKept (first first_said : List ℕ) (calls : List Kept) (file said : List ℕ) : Type 0 where
  pub reads : file ≡ file_after first (newest_first calls)
  pub output : said ≡ said_after first_said (newest_first calls)
  pub possible : is_possible first (newest_first calls) ≡ true

-- the ranges that these calls wrote
abbrev pub written : List Call → List Range
written [] = []
written (Wrote at bytes ∷ calls) = range at (length bytes) ∷ written calls
written (Synced ∷ calls) = written calls
written (Put piece ∷ calls) = written calls
