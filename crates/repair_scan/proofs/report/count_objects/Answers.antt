use Rattle.std.proofs.Common.{◌≤◌, length, arith, sym}
use Rattle.file_model.specs.declared.entry.Entry.{Entry}
use Rattle.repair_scan.proofs.Reported.{sum_more, none_past}
use Rattle.repair_scan.proofs.report.count_objects.Goals as goal
use Rattle.repair_scan.proofs.report.count_objects.Goals.{in-Some, in_default}

pub loop-place-preserved : goal.loop-place-preserved
loop-place-preserved c = elim c.match-get.branch [
  | in-Some w ↦
      let more = sum_more (λ (e : Entry). e.count) c.args.entries.now c.loop-place.place w.in-Some.entry.now (sym w.in-Some.ensures) in
      record {
        counted = omega (arith, more, w.total-is, w.objects_of-total.ensures.value, c.loop-place.invariant.counted);
        fits = omega (arith, w.total-is, w.objects_of-total.ensures.fits, c.loop-place.invariant.fits);
      }
  | in_default w ↦
      let past : length c.args.entries.now ≤ c.loop-place.place = none_past c.args.entries.now c.loop-place.place w.in_default.ensures in
      absurd (omega arith)
]
