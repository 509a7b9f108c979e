-- A report, filled by the header and by what a scan found. This project's own.
use Rattle.std.specs.Prelude.{Bool, not, ◌&&◌, ◌||◌, ◌==◌, List, length, sum_by, is_none}
use Rattle.file_model.specs.declared.head.Located.{Located}
use Rattle.file_model.specs.declared.reject.Reject.{Reject}
use Rattle.file_model.specs.Fit.{is_dirty, are_none, index_named}
use Rattle.repair_scan.specs.declared.found.Found.{Found}
use Rattle.repair_scan.specs.declared.report.Report.{Report}
use Rattle.repair_scan.specs.Reports.{index_state}

-- all segments of the header are there, open gates stand at taken units alone, and no index is named
abbrev pub is_in_order : Located → List Reject → Bool
is_in_order l rejects = l.whole == l.head.segments && (are_none rejects && is_none l.head.index)

abbrev pub report_with : Located → Found → Report
report_with l found = record {
  located = l;
  keys = length found.entries;
  objects = sum_by (λ e. e.count) found.entries;
  rejects = found.rejects;
  index = index_state (index_named l.head.index);
  sound = is_dirty l.head.state || is_in_order l found.rejects;
  needs_repair = is_dirty l.head.state || not (is_in_order l found.rejects);
}
