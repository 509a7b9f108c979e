use Rattle.std.proofs.Common.{◌+◌, ◌*◌}
use Rattle.space_model.specs.Sizes.{segment_units}
use Rattle.file_model.specs.View.{Units}
use Rattle.repair_scan.specs.Judgements.{IsWithin}
use Rattle.repair_scan.specs.TakenKeys.{AreKept}
use Rattle.repair_scan.specs.Progress.{IsJudgedTo, ShowsSegment}
use Rattle.repair_scan.proofs.segment.judge_units.Given as goal

abbrev pub invariant-loop-place : goal.invariant-loop-place
invariant-loop-place l = record {
  kept : AreKept l.judge.keys;
  within : IsWithin (segment_units * l.segment) l.fn.judge → IsWithin (segment_units * l.segment + l.place) l.judge;
  goes_on : (v : Units) → ShowsSegment v l.head l.segment l.gates l.units → IsJudgedTo v (segment_units * l.segment) l.fn.judge
      → IsJudgedTo v (segment_units * l.segment + l.place) l.judge;
}
