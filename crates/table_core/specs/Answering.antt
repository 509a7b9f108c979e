-- What an opening answers by the file, which table it gives, and what a stop within it leaves. The refusals are those of
-- open_file/2 of the dets reference manual, in their order; the faults are this project's own.
use Rattle.std.specs.Prelude.{◌≡◌, ℕ, Bool, cond, not, ◌&&◌, ◌==◌, List, [], ◌∷◌, Option, Some, None, Result, Ok, Err}
use Rattle.space_model.specs.Ledger.{opened}
use Rattle.file_model.specs.declared.head.Head.{Head}
use Rattle.file_model.specs.declared.head.Located.{Located}
use Rattle.file_model.specs.declared.head.Unreadable.{Unreadable}
use Rattle.file_model.specs.declared.head.Unreadable.TheVariants as unreadable
use Rattle.file_model.specs.Header.{head_of, located}
use Rattle.file_model.specs.View.{view_of}
use Rattle.file_model.specs.Taken.{entries, rejects}
use Rattle.file_model.specs.Fit.{needs_repair}
use Rattle.block_disk.specs.declared.fault.HeadFault.{HeadFault}
use Rattle.block_disk.specs.declared.fault.HeadFault.TheVariants as header
use Rattle.repair_scan.specs.declared.fault.ScanFault.{ScanFault}
use Rattle.repair_scan.specs.declared.fault.ScanFault.TheVariants as scan
use Rattle.repair_scan.specs.declared.found.Found.{Found}
use Rattle.run_model.specs.declared.options.OpenOptions.{OpenOptions}
use Rattle.run_model.specs.State.{Kept, File, empty, refused, kept, file_of, made}
use Rattle.run_model.specs.Opening.{can_write, may_repair, is_same_kind}
use Rattle.book_model.specs.Book.{Book}
use Rattle.book_model.specs.LedgerOf.{ledger_of}
use Rattle.book_model.specs.OfFile.{IsOf, standing_of}
use Rattle.store_model.specs.Stores.{table_with}
use Rattle.store_model.specs.Keeping.{Keeps}
use Rattle.table_core.specs.declared.open_fault.OpenFault.{OpenFault}
use Rattle.table_core.specs.declared.open_fault.OpenFault.TheVariants.{Disk, NoFile, NotDets, Version, TypeMismatch, KeyposMismatch, NeedsRepair, Memory}

-- ---- refusals

abbrev pub unreadable_fault : Unreadable → OpenFault
unreadable_fault unreadable.NotDets = NotDets
unreadable_fault (unreadable.Version number) = Version number

-- of a header, whatever is behind it
abbrev pub shape_fault : OpenOptions → Head → Option OpenFault
shape_fault options h =
    cond (not (is_same_kind options.kind h.kind)) (Some (TypeMismatch h.kind))
    (cond (not (options.keypos == h.keypos)) (Some (KeyposMismatch h.keypos)) None)

-- the first of two that is there
abbrev pub or_else : Option OpenFault → Option OpenFault → Option OpenFault
or_else None next = next
or_else (Some fault) next = Some fault

abbrev pub repair_fault : OpenOptions → Bool → Option OpenFault
repair_fault options needs = cond (needs && not (may_repair options)) (Some NeedsRepair) None

abbrev pub fault_with : OpenOptions → List ℕ → Result Head Unreadable → Option OpenFault
fault_with options file (Err why) = Some (unreadable_fault why)
fault_with options file (Ok h) = or_else (shape_fault options h) (repair_fault options (needs_repair h file))

-- the fault of an opening, none where it is not refused
abbrev pub fault_of_opening : OpenOptions → List ℕ → Option OpenFault
fault_of_opening options [] = cond (can_write options.access) None (Some NoFile)
fault_of_opening options (b ∷ bs) = fault_with options (b ∷ bs) (head_of (b ∷ bs))

-- a fault is answered that is there; Disk and Memory may take the place of any answer
abbrev pub IsFault : Option OpenFault → OpenFault → Type 0
IsFault there Disk = Unit {0}
IsFault there Memory = Unit {0}
IsFault there other = there ≡ Some other

-- the answer where this fault is there, or none
abbrev pub IsAnsweredBy : {A : Type 0} → Option OpenFault → Result A OpenFault → Type 0
IsAnsweredBy there (Ok a) = there ≡ None
IsAnsweredBy there (Err fault) = IsFault there fault

-- ---- the faults of the calls below

abbrev pub header_fault : HeadFault → OpenFault
header_fault header.Disk = Disk
header_fault header.NotDets = NotDets
header_fault (header.Version number) = Version number

abbrev pub scan_fault : ScanFault → OpenFault
scan_fault scan.Disk = Disk
scan_fault scan.Memory = Memory

-- ---- what was read of a file

-- its header where it is, its taken blocks and rejects, and whether it needs repair
pub record IsRead (place : Located) (found : Found) (needs : Bool) (file : List ℕ) : Type 0 where
  pub place_is : located file ≡ Ok place
  pub entries : found.entries ≡ entries (view_of place.head file)
  pub rejects : found.rejects ≡ rejects (view_of place.head file)
  pub judged : needs ≡ needs_repair place.head file

-- ---- the table, and what a stop leaves

-- what is kept of a file that is opened; one without bytes is made
abbrev pub kept_at_opening : OpenOptions → File → Kept
kept_at_opening options empty = made options
kept_at_opening options (refused why) = made options
kept_at_opening options (kept k) = k

-- A book is that of the new file, and has the table and the ledger of the old one as it is opened.
pub record IsOpenedTo (options : OpenOptions) (b : Book) (old new : List ℕ) : Type 0 where
  pub of_file : IsOf new b
  pub table : table_with b.place.head new ≡ (kept_at_opening options (file_of old)).table
  pub ledger : ledger_of (standing_of (view_of b.place.head new)) b
      ≡ opened (kept_at_opening options (file_of old)).max_segments (kept_at_opening options (file_of old)).segments (kept_at_opening options (file_of old)).standing

abbrev pub image_by : List ℕ → Result Head Unreadable → List ℕ → Type 0
image_by file (Err why) image = image ≡ file
image_by file (Ok h) image = Keeps h file image

-- What a stop within an opening may leave: nothing is said of a file in the making; a file that cannot be read is as it was; of
-- another one the table is kept.
abbrev pub IsOpening : List ℕ → List ℕ → Type 0
IsOpening [] image = Unit {0}
IsOpening (b ∷ bs) image = image_by (b ∷ bs) (head_of (b ∷ bs)) image

-- the faults that any call may have, and those that tell of the file
abbrev pub IsFree : OpenFault → Type 0
IsFree Disk = Unit {0}
IsFree Memory = Unit {0}
IsFree other = ⊥

abbrev pub IsRefusal : OpenFault → Type 0
IsRefusal Disk = ⊥
IsRefusal Memory = ⊥
IsRefusal other = Unit {0}
