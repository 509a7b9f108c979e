-- What a check of a file comes to: what each status says of the file, and what is put. All of it is this project's own.
use mathlib.Core.List.{IsPrefix}
use Rattle.std.specs.Prelude.{◌≡◌, ◌≢◌, ℕ, List, [], ◌++◌, Option, option_map, Ok, Err}
use Rattle.file_model.specs.declared.head.Unreadable.TheVariants.{NotDets as NoTable, Version as OtherVersion}
use Rattle.file_model.specs.Header.{located}
use Rattle.repair_scan.specs.declared.fault.CheckFault.{CheckFault}
use Rattle.repair_scan.specs.declared.fault.CheckFault.TheVariants.{Disk as DiskFault, NotDets as NotTable, Version as TheVersion, Memory as NoMemory}
use Rattle.repair_scan.specs.Reports.{Tells}
use Rattle.repair_scan.specs.declared.report.Report.{Report}
use Rattle.dets_tool.specs.declared.status.FileWhy.TheVariants.{Empty, NotDets, Version}
use Rattle.dets_tool.specs.declared.status.Status.{Status}
use Rattle.dets_tool.specs.declared.status.Status.TheVariants.{Done, Input, WordsRefused, Disk, SourceFault, Output, Memory, File, NotYet}
use Rattle.dets_tool.specs.Report.{report_lines}

-- the output grew by these bytes
abbrev pub HasPut : List ℕ → (said now : Option (List ℕ)) → Type 0
HasPut bytes said now = now ≡ option_map (λ (output : List ℕ). output ++ bytes) said

-- by a front of the report of a file
pub record PutsFront (file : List ℕ) (said now : Option (List ℕ)) : Type 0 where
  pub report : Report
  pub of_file : Tells (Ok report) file
  pub front : List ℕ
  pub is_front : IsPrefix front (report_lines report)
  pub output : HasPut front said now

-- by all lines of the report of a file
pub record PutsAll (file : List ℕ) (said now : Option (List ℕ)) : Type 0 where
  pub report : Report
  pub of_file : Tells (Ok report) file
  pub output : HasPut (report_lines report) said now

-- a check of this file, up to this status
abbrev pub Checked : Status → (file : List ℕ) → (said now : Option (List ℕ)) → Type 0
Checked Done file said now = PutsAll file said now
Checked (Input offset why) file said now = ⊥
Checked WordsRefused file said now = ⊥
Checked Disk file said now = now ≡ said
Checked SourceFault file said now = ⊥
Checked Output file said now = PutsFront file said now
Checked Memory file said now = now ≡ said
Checked (File Empty) file said now = (file ≡ []) × (now ≡ said)
Checked (File NotDets) file said now = (file ≢ []) × ((located file ≡ Err NoTable) × (now ≡ said))
Checked (File (Version version)) file said now = (located file ≡ Err (OtherVersion version)) × (now ≡ said)
Checked (NotYet command) file said now = ⊥

-- the status where there is no report
abbrev pub status_of_check : CheckFault → Status
status_of_check DiskFault = Disk
status_of_check NotTable = File NotDets
status_of_check (TheVersion version) = File (Version version)
status_of_check NoMemory = Memory
