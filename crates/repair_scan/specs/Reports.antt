-- What a check tells of a file. This project's own.
use Rattle.std.specs.Prelude.{◌≡◌, ℕ, List, length, Result, Ok, Err}
use Rattle.file_model.specs.declared.head.Located.{Located}
use Rattle.file_model.specs.declared.head.Unreadable.TheVariants as unreadable
use Rattle.file_model.specs.Header.{located}
use Rattle.file_model.specs.View.{view_of}
use Rattle.file_model.specs.Taken.{taken, rejects, objects_in}
use Rattle.file_model.specs.Fit.{Index, Absent, BadChain, index_of_file, is_sound, needs_repair}
use Rattle.repair_scan.specs.declared.fault.CheckFault.{CheckFault}
use Rattle.repair_scan.specs.declared.fault.CheckFault.TheVariants.{Disk, NotDets, Version, Memory}
use Rattle.repair_scan.specs.declared.report.IndexState.{IndexState}
use Rattle.repair_scan.specs.declared.report.IndexState.TheVariants.{Absent as IsAbsent, Differs}
use Rattle.repair_scan.specs.declared.report.Report.{Report}

abbrev pub index_state : Index → IndexState
index_state Absent = IsAbsent
index_state BadChain = Differs

-- the report of an image whose header was found so
abbrev pub report_of : Located → List ℕ → Report
report_of l image = record {
  located = l;
  keys = length (taken (view_of l.head image));
  objects = length (objects_in (taken (view_of l.head image)));
  rejects = rejects (view_of l.head image);
  index = index_state (index_of_file l.head image);
  sound = is_sound l.head image;
  needs_repair = needs_repair l.head image;
}

-- The report by the header of the image, or that it has none that can be read. Disk and Memory may take the place of any
-- answer.
abbrev pub Tells : Result Report CheckFault → List ℕ → Type 0
Tells (Ok report) image = (l : Located) × (located image ≡ Ok l) × (report ≡ report_of l image)
Tells (Err NotDets) image = located image ≡ Err unreadable.NotDets
Tells (Err (Version number)) image = located image ≡ Err (unreadable.Version number)
Tells (Err Disk) image = Unit {0}
Tells (Err Memory) image = Unit {0}
