-- A host that does not tell its stops.
use Rattle.std.specs.Prelude.{ℕ, false, List, Option}
use Rattle.std.proofs.lemmas.Bool.{false≢true}
use Rattle.host_model.specs.Counts.{counted, count_fits}
use Rattle.host_model.specs.Host.{Shown, IsCoherent}

-- what it shows: its file and its output where it tells them, and its counts of faults
abbrev pub without_stops : Option (List ℕ) → Option (List ℕ) → ℕ → ℕ → Shown
without_stops file_read output disk out = record {
  file = file_read;
  said = output;
  tells_stops = false;
  may_leave = λ c. ⊥;
  left_since = λ t c. ⊥;
  clock = 0;
  reads = 0;
  disk_faults = counted disk;
  out_faults = counted out;
}

pub untold_coherent : (f o : Option (List ℕ)) (disk out : ℕ) → IsCoherent (without_stops f o disk out)
untold_coherent f o disk out = record {
  now_left = λ told. absurd (false≢true told);
  outputs = λ c left. absurd left;
  counts_now = λ c left. left;
  only_now = λ c left. left;
  earlier = λ s t c le left. left;
  bytes = λ t c left. absurd left;
  reads_fit = count_fits 0;
  disk_faults_fit = count_fits disk;
  out_faults_fit = count_fits out;
}
