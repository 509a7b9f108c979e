use Rattle.std.proofs.Common.{◌≡◌, ◌≤◌, ◌+◌, ◌*◌, length}
use Rattle.std.specs.Prelude.{IsTrue}
use Rattle.space_model.specs.Sizes.{unit_size, segment_units}
use Rattle.host_model.specs.Disk.{WhereTold}
use Rattle.host_model.specs.Host.{Rests}
use Rattle.repair_scan.specs.Judgements.{IsWithin}
use Rattle.repair_scan.specs.TakenKeys.{AreKept}
use Rattle.repair_scan.specs.Progress.{units_with, IsJudgedTo}
use Rattle.repair_scan.proofs.scanning.scan_segments.Given as goal

abbrev pub invariant-loop-segment : goal.invariant-loop-segment
invariant-loop-segment g l = record {
  kept : AreKept l.judge.keys;
  within : IsWithin (segment_units * l.segment) l.judge;
  judged : WhereTold (g.H.Host.shows l.fn.host).file (λ f. IsJudgedTo (units_with l.head l.segments f) (segment_units * l.segment) l.judge);
  rests : Rests (g.H.Host.shows l.fn.host) (g.H.Host.shows l.host);
  reads : IsTrue (g.H.Host.shows l.fn.host).tells_stops → (g.H.Host.shows l.host).reads ≤ (g.H.Host.shows l.fn.host).reads + 2 * l.segment;
  faults : (g.H.Host.shows l.host).disk_faults ≡ (g.H.Host.shows l.fn.host).disk_faults;
  out_faults : (g.H.Host.shows l.host).out_faults ≡ (g.H.Host.shows l.fn.host).out_faults;
  size : length l.units ≡ unit_size * segment_units;
}
