-- A host in memory, as contracts see it. All of it is this project's own.
use Rattle.std.specs.Prelude.{ℕ, Bool, false, not, ◌||◌, List, [], ◌∷◌, length, Option, Some, None}
use Rattle.host_model.specs.Counts.{counted, following, is_listed, raised}
use Rattle.host_model.specs.Host.{Left, Shown}
use Rattle.host_model.specs.Calls.{Call, file_after, said_after, is_possible, LeftAfter, LeftSince}

pub record MemHostState : Type 0 where
  -- the file and the output that it began with
  pub origin : Left
  -- the calls since that moved the clock, newest first
  pub calls : List Call
  pub reads : ℕ
  pub disk_faults : ℕ
  pub out_faults : ℕ
  -- the numbers of the calls that fail, counted from 0
  pub fail : List ℕ
  -- the number of the next call; none once each number of 64 bits was used
  pub next_call : Option ℕ
  -- whether a call failed that is not listed, so for want of memory
  pub starved : Bool

-- a settled host with this file and this output
abbrev pub fresh_host : Left → List ℕ → MemHostState
fresh_host pair listed = record {
  origin = pair;
  calls = [];
  reads = 0;
  disk_faults = 0;
  out_faults = 0;
  fail = listed;
  next_call = Some 0;
  starved = false;
}

abbrev pub file_of : MemHostState → List ℕ
file_of h = file_after h.origin.image h.calls

abbrev pub said_of : MemHostState → List ℕ
said_of h = said_after h.origin.output h.calls

abbrev pub pair_of : MemHostState → Left
pair_of h = record { image = file_of h; output = said_of h }

abbrev pub shown_of : MemHostState → Shown
shown_of h = record {
  file = Some (file_of h);
  said = Some (said_of h);
  tells_stops = is_possible h.origin.image h.calls;
  may_leave = LeftAfter h.origin h.calls None;
  left_since = LeftSince h.origin h.calls;
  clock = length h.calls;
  reads = counted h.reads;
  disk_faults = counted h.disk_faults;
  out_faults = counted h.out_faults;
}

-- the host after a call that does not move the clock
abbrev pub host_after_len : MemHostState → MemHostState
host_after_len h = record h { next_call = following h.next_call }

abbrev pub host_after_read : MemHostState → MemHostState
host_after_read h = record h { next_call = following h.next_call; reads = raised h.reads }

-- the host after one that does
abbrev pub host_after : Call → MemHostState → MemHostState
host_after call h = record h { calls = call ∷ h.calls; next_call = following h.next_call }

-- The host after a call that failed. It starved unless the call was listed.
abbrev pub host_after_fault : MemHostState → MemHostState
host_after_fault h = record h { next_call = following h.next_call; starved = h.starved || not (is_listed h.next_call h.fail) }

abbrev pub host_after_disk_fault : MemHostState → MemHostState
host_after_disk_fault h = record (host_after_fault h) { disk_faults = raised h.disk_faults }

abbrev pub host_after_out_fault : MemHostState → MemHostState
host_after_out_fault h = record (host_after_fault h) { out_faults = raised h.out_faults }
