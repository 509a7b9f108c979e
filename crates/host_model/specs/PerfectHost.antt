-- A host that fails for want of room alone, as contracts see it. All of it is this project's own.
use Rattle.std.specs.Prelude.{ℕ, List, [], ◌++◌, Some}
use Rattle.host_model.specs.Counts.{raised}
use Rattle.host_model.specs.Disk.{written_at}
use Rattle.host_model.specs.Host.{Shown, IsCoherent}
use Rattle.host_model.specs.Untold.{without_stops, untold_coherent}

pub record PerfectHostState : Type 0 where
  pub file : List ℕ
  pub said : List ℕ
  -- the greatest lengths of the two
  pub file_room : ℕ
  pub out_room : ℕ
  pub disk_faults : ℕ
  pub out_faults : ℕ

abbrev pub fresh_perfect : List ℕ → ℕ → ℕ → PerfectHostState
fresh_perfect bytes for_file for_output = record {
  file = bytes;
  said = [];
  file_room = for_file;
  out_room = for_output;
  disk_faults = 0;
  out_faults = 0;
}

-- what it shows: its file and its output, and not what a stop leaves
abbrev pub shown_of : PerfectHostState → Shown
shown_of h = without_stops (Some h.file) (Some h.said) h.disk_faults h.out_faults

pub is_coherent : (h : PerfectHostState) → IsCoherent (shown_of h)
is_coherent h = untold_coherent (Some h.file) (Some h.said) h.disk_faults h.out_faults

abbrev pub perfect_after_write : ℕ → List ℕ → PerfectHostState → PerfectHostState
perfect_after_write at bytes h = record h { file = written_at at bytes h.file }

abbrev pub perfect_after_put : List ℕ → PerfectHostState → PerfectHostState
perfect_after_put piece h = record h { said = h.said ++ piece }

abbrev pub perfect_after_disk_fault : PerfectHostState → PerfectHostState
perfect_after_disk_fault h = record h { disk_faults = raised h.disk_faults }

abbrev pub perfect_after_out_fault : PerfectHostState → PerfectHostState
perfect_after_out_fault h = record h { out_faults = raised h.out_faults }
