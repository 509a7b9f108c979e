-- What a check of a file comes to where there is no report, and where its lines are not put whole.
use Rattle.std.proofs.Common.{◌≡◌, ◌≢◌, ℕ, List, [], take, drop, Option, Ok, Err, ◌∙◌, subst}
use Rattle.std.proofs.lemmas.List.{take-append-drop}
use Rattle.host_model.specs.Host.{SaysFront}
use Rattle.repair_scan.specs.declared.fault.CheckFault.{CheckFault}
use Rattle.repair_scan.specs.declared.fault.CheckFault.TheVariants.{Disk, NotDets, Version, Memory}
use Rattle.repair_scan.specs.declared.report.Report.{Report}
use Rattle.repair_scan.specs.Reports.{Tells}
use Rattle.dets_tool.specs.Report.{report_lines}
use Rattle.dets_tool.specs.Checking.{HasPut, PutsFront, Checked, status_of_check}

-- a file with bytes
pub no_report : (fault : CheckFault) (file : List ℕ) (said now : Option (List ℕ)) → file ≢ [] → Tells (Err fault) file → now ≡ said
    → Checked (status_of_check fault) file said now
no_report Disk file said now some tells same = same
no_report NotDets file said now some tells same = (some, (tells, same))
no_report (Version number) file said now some tells same = (tells, same)
no_report Memory file said now some tells same = same

-- a front of these lines was said behind what was said before
pub lines_cut : (report : Report) (file lines : List ℕ) (start said now : Option (List ℕ)) → Tells (Ok report) file → lines ≡ report_lines report
    → said ≡ start → SaysFront lines said now → PutsFront file start now
lines_cut report file lines start said now tells is same front = record {
  report = report;
  of_file = tells;
  front = take front.count lines;
  is_front = (drop front.count lines, take-append-drop front.count lines ∙ is);
  output = subst (λ s. HasPut (take front.count lines) s now) same front.grown;
}
