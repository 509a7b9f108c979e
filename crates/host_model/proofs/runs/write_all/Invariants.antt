-- Some of the writes were made.
use Rattle.std.proofs.Common.{◌≡◌, ◌≤◌, ◌+◌, take, option_map}
use Rattle.host_model.specs.Tearing.{Tearing}
use Rattle.host_model.specs.Writes.{ranges_of, with_writes}
use Rattle.host_model.proofs.runs.write_all.Given as goal

abbrev pub invariant-loop-i : goal.invariant-loop-i
invariant-loop-i g l = record {
  written : (g.H.Host.shows l.host).file ≡ option_map (with_writes (take l.i (g.W.Writes.list l.writes))) (g.H.Host.shows l.fn.host).file;
  tearing : Tearing (ranges_of (g.W.Writes.list l.writes)) (g.H.Host.shows l.fn.host) (g.H.Host.shows l.host);
  ok_faults : (g.H.Host.shows l.host).disk_faults ≡ (g.H.Host.shows l.fn.host).disk_faults;
  clock : (g.H.Host.shows l.host).clock ≤ (g.H.Host.shows l.fn.host).clock + l.i;
}
