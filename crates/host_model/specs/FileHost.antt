-- A file and standard output, as contracts see them. All of it is this project's own.
use Rattle.std.specs.Prelude.{ℕ, ◌≤◌, List, length, take, Option, None}
use Rattle.std.specs.Io.KnownBytes.{Appends}
use Rattle.host_model.specs.Counts.{raised}
use Rattle.host_model.specs.Host.{Shown, IsCoherent}
use Rattle.host_model.specs.Untold.{without_stops, untold_coherent}

pub record FileHostState : Type 0 where
  -- where the file is, if there is one
  pub path : Option (List ℕ)
  pub disk_faults : ℕ
  pub out_faults : ℕ

-- a new host over the file at this path
abbrev pub fresh_file_host : Option (List ℕ) → FileHostState
fresh_file_host place = record { path = place; disk_faults = 0; out_faults = 0 }

-- what it shows: neither the file nor what was said
abbrev pub shown_of : FileHostState → Shown
shown_of h = without_stops None None h.disk_faults h.out_faults

pub is_coherent : (h : FileHostState) → IsCoherent (shown_of h)
is_coherent h = untold_coherent None None h.disk_faults h.out_faults

-- the host after a call on the file that failed
abbrev pub file_host_after_disk_fault : FileHostState → FileHostState
file_host_after_disk_fault h = record h { disk_faults = raised h.disk_faults }

-- the host after a piece that failed
abbrev pub file_host_after_fault : FileHostState → FileHostState
file_host_after_fault h = record h { out_faults = raised h.out_faults }

-- a writer got a front of the bytes, where it shows what it holds
pub record AppendsFront (old new : Option (List ℕ)) (bytes : List ℕ) : Type 0 where
  pub count : ℕ
  pub fits : count ≤ length bytes
  pub grown : Appends old new (take count bytes)
