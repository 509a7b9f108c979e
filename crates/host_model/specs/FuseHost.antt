-- A host that stops serving after some calls, as contracts see it. All of it is this project's own.
use Rattle.std.specs.Prelude.{ℕ, ◌+◌, ◌-◌, ◌==◌, if◌then◌else◌}
use Rattle.host_model.specs.Counts.{counted, count_fits, raised}
use Rattle.host_model.specs.Host.{Shown, IsCoherent}
use Rattle.host_model.specs.MemHost as mem
use Rattle.host_model.specs.CallLaws as laws

pub record FuseHostState : Type 0 where
  pub inner : mem.MemHostState
  -- how many calls it still passes on
  pub calls_left : ℕ
  -- how many it did not pass on, on the file and of output
  pub disk_blown : ℕ
  pub out_blown : ℕ

abbrev pub fresh_fuse : mem.MemHostState → ℕ → FuseHostState
fresh_fuse h calls = record { inner = h; calls_left = calls; disk_blown = 0; out_blown = 0 }

-- what it shows: what the inner host shows, with its own failures counted too
abbrev pub shown_of : FuseHostState → Shown
shown_of f = record (mem.shown_of f.inner) {
  disk_faults = counted (f.inner.disk_faults + f.disk_blown);
  out_faults = counted (f.inner.out_faults + f.out_blown);
}

-- the host after a call that it passed on, which left the inner host so
abbrev pub fuse_after : mem.MemHostState → FuseHostState → FuseHostState
fuse_after h f = record f { inner = h; calls_left = f.calls_left - 1 }

-- the host after a call that failed: it did not pass it on, or the inner host failed
abbrev pub fuse_after_disk_fault : FuseHostState → FuseHostState
fuse_after_disk_fault f =
    if f.calls_left == 0 then record f { disk_blown = raised f.disk_blown } else fuse_after (mem.host_after_disk_fault f.inner) f

abbrev pub fuse_after_out_fault : FuseHostState → FuseHostState
fuse_after_out_fault f =
    if f.calls_left == 0 then record f { out_blown = raised f.out_blown } else fuse_after (mem.host_after_out_fault f.inner) f

pub is_coherent : (f : FuseHostState) → IsCoherent (shown_of f)
is_coherent f = let i = laws.is_coherent f.inner in record {
  now_left = i.now_left;
  outputs = i.outputs;
  counts_now = i.counts_now;
  only_now = i.only_now;
  earlier = i.earlier;
  bytes = i.bytes;
  reads_fit = i.reads_fit;
  disk_faults_fit = count_fits (f.inner.disk_faults + f.disk_blown);
  out_faults_fit = count_fits (f.inner.out_faults + f.out_blown);
}
