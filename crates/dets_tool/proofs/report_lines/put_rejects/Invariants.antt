-- The lines of the rejects so far.
use Rattle.std.proofs.Common.{◌≡◌, ◌++◌, take}
use Rattle.std.specs.List.{flat_map}
use Rattle.dets_tool.specs.Report.{reject_line}
use Rattle.dets_tool.proofs.report_lines.put_rejects.Given as goal

abbrev pub invariant-loop-reject : goal.invariant-loop-reject
invariant-loop-reject l = l.lines ≡ l.fn.lines ++ flat_map reject_line (take l.reject-index l.reject-items)
