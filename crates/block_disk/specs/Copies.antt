-- The two copies of the header in a file, and what writes to them leave. This project's own.
use Rattle.std.specs.Prelude.{◌≡◌, ◌≤◌, ◌⊎◌, ℕ, ◌+◌, Bool, true, false, not, List, length, slice_range, Ok}
use Rattle.host_model.specs.Disk.{DiffersIn}
use Rattle.host_model.specs.Host.{Shown}
use Rattle.file_model.specs.declared.head.Head.{Head}
use Rattle.file_model.specs.Layout.{page_size, copy_at, body_at, body_size, is_open_at}
use Rattle.file_model.specs.Header.{head_in, head_of}
use Rattle.block_disk.specs.Places.{the_page}

-- ---- what holds of a file, or of an image of it

-- It has the old header or the new one, and outside the header's page it is as before.
pub record HasEither (old new : Head) (before now : List ℕ) : Type 0 where
  pub header : (head_of now ≡ Ok old) ⊎ (head_of now ≡ Ok new)
  pub outside : DiffersIn the_page before now

-- It has this header, and outside the header's page it is as before.
pub record HasHeader (h : Head) (before now : List ℕ) : Type 0 where
  pub header : head_of now ≡ Ok h
  pub outside : DiffersIn the_page before now

-- ---- what a call on a file leaves alone, whatever it answers: the output and the counts but that of disk faults
pub record OnlyDisk (old new : Shown) : Type 0 where
  pub said : new.said ≡ old.said
  pub reads : new.reads ≡ old.reads
  pub never_falls : old.disk_faults ≤ new.disk_faults
  pub out_faults : new.out_faults ≡ old.out_faults

-- ---- a middle: the copies one by one

abbrev pub is_open_copy : Bool → List ℕ → Bool
is_open_copy second image = is_open_at image (copy_at second)

abbrev pub copy_body : Bool → List ℕ → List ℕ
copy_body second image = slice_range image (body_at second) (body_at second + body_size)

pub record SameCopy (second : Bool) (old new : List ℕ) : Type 0 where
  pub gate : is_open_copy second new ≡ is_open_copy second old
  pub body : copy_body second new ≡ copy_body second old

-- the gate of a copy was torn, and then written
pub record TearsGate (second : Bool) (old new : List ℕ) : Type 0 where
  pub outside : DiffersIn the_page old new
  pub other : SameCopy (not second) old new
  pub body : copy_body second new ≡ copy_body second old

pub record WritesGate (second is_open : Bool) (old new : List ℕ) : Type 0 where
  pub torn : TearsGate second old new
  pub gate : is_open_copy second new ≡ is_open

-- the body of a copy was torn, and then written
pub record TearsBody (second : Bool) (old new : List ℕ) : Type 0 where
  pub outside : DiffersIn the_page old new
  pub other : SameCopy (not second) old new
  pub gate : is_open_copy second new ≡ is_open_copy second old

pub record WritesBody (second : Bool) (bytes old new : List ℕ) : Type 0 where
  pub torn : TearsBody second old new
  pub body : copy_body second new ≡ bytes

-- ---- a middle: a header change

-- Before it: this copy is current and has this header, and the gate of the other one is as told.
pub record Stands (second other : Bool) (h : Head) (f : List ℕ) : Type 0 where
  pub page : page_size ≤ length f
  pub current : is_open_copy second f ≡ true
  pub gate : is_open_copy (not second) f ≡ other
  pub head : head_in (copy_body second f) ≡ Ok h
  -- the second copy is current only where the first one's gate is closed
  pub first : (second ≡ false) ⊎ (other ≡ false)

-- Once the other copy has its body: its gate is still closed.
pub record IsReady (second : Bool) (old new : Head) (f : List ℕ) : Type 0 where
  pub stands : Stands second false old f
  pub body : head_in (copy_body (not second) f) ≡ Ok new

-- it is ready for the switch, and outside the header's page as before
pub record Prepares (second : Bool) (old new : Head) (before now : List ℕ) : Type 0 where
  pub ready : IsReady second old new now
  pub outside : DiffersIn the_page before now

-- This copy is current and has this header, the other one's gate is closed, and outside the header's page all is as before.
pub record IsCurrent (second : Bool) (h : Head) (before now : List ℕ) : Type 0 where
  pub stands : Stands second false h now
  pub outside : DiffersIn the_page before now
