use Rattle.std.proofs.Common.{◌≡◌, ◌≤◌, ◌*◌, ◌^◌, take}
use Rattle.std.specs.Prelude.{sum_by}
use Rattle.repair_scan.proofs.report.count_objects.Given as goal

abbrev pub invariant-loop-place : goal.invariant-loop-place
invariant-loop-place l = record {
  counted : l.total ≡ sum_by (λ e. e.count) (take l.place l.entries);
  fits : l.total ≤ l.place * 2 ^ 32;
}
