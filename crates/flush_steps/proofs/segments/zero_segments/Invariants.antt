-- The first segments are zeros.
use Rattle.std.proofs.Common.{◌≡◌, ◌≤◌, ◌+◌, ◌*◌, ◌-◌}
use Rattle.space_model.specs.Sizes.{segment_units}
use Rattle.host_model.specs.Disk.{WhereTold}
use Rattle.host_model.specs.Tearing.{Tearing}
use Rattle.book_model.specs.Stopped.{AreShut}
use Rattle.flush_steps.specs.Added.{added}
use Rattle.flush_steps.proofs.segments.zero_segments.Given as goal

abbrev pub invariant-loop-segment : goal.invariant-loop-segment
invariant-loop-segment g l = record {
  shut : WhereTold (g.H.Host.shows l.host).file (AreShut segment_units l.from l.segment);
  tearing : Tearing (added segment_units l.from l.to) (g.H.Host.shows l.fn.host) (g.H.Host.shows l.host);
  clock : (g.H.Host.shows l.host).clock ≤ (g.H.Host.shows l.fn.host).clock + 65 * (l.segment - l.from);
  ok_faults : (g.H.Host.shows l.host).disk_faults ≡ (g.H.Host.shows l.fn.host).disk_faults;
}
