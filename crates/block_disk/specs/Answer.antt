-- What the reading of a header answers. This project's own.
use Rattle.std.specs.Prelude.{◌≡◌, ◌⊎◌, Bool, true, false, List, Option, Some, None, Result, Ok, Err, ℕ}
use Rattle.file_model.specs.declared.head.Located.{Located}
use Rattle.file_model.specs.declared.head.Unreadable.{Unreadable}
use Rattle.file_model.specs.declared.head.Unreadable.TheVariants as unreadable
use Rattle.file_model.specs.Layout.{copy_at, is_open_at}
use Rattle.block_disk.specs.declared.fault.HeadFault.{HeadFault}
use Rattle.block_disk.specs.declared.fault.HeadFault.TheVariants.{Disk, NotDets, Version}

abbrev pub fault_of : Unreadable → HeadFault
fault_of unreadable.NotDets = NotDets
fault_of (unreadable.Version n) = Version n

-- what is answered for a file, where no call on the disk fails
abbrev pub answer_for : Result Located Unreadable → Result Located HeadFault
answer_for (Ok l) = Ok l
answer_for (Err why) = Err (fault_of why)

-- that, or Disk
abbrev pub Answers : Result Located HeadFault → Result Located Unreadable → Type 0
Answers answer found = (answer ≡ Err Disk) ⊎ (answer ≡ answer_for found)

-- ---- a middle: the current copy of a page, and whether the gate of the other one is open too

abbrev pub copies_by : Bool → Bool → Option (Bool × Bool)
copies_by true other = Some (false, other)
copies_by false true = Some (true, false)
copies_by false false = None

abbrev pub copies_in : List ℕ → Option (Bool × Bool)
copies_in page = copies_by (is_open_at page (copy_at false)) (is_open_at page (copy_at true))
