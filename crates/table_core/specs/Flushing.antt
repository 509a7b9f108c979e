-- What a flush makes of the table that a file and its book hold. This project's own.
use Rattle.std.specs.Prelude.{ℕ, List}
use Rattle.table_model.specs.Table.{Table}
use Rattle.host_model.specs.Host.{Shown}
use Rattle.host_model.specs.Images.{LeavesImages}
use Rattle.book_model.specs.Book.{Book}
use Rattle.store_model.specs.Stores.{table_with, Stores, IsBetween}

-- whatever table the old file and its book hold, the new ones hold it
abbrev pub HoldsStill : (before after : Book) → (old new : List ℕ) → Type 0
HoldsStill before after old new = (t : Table) → Stores old before t → Stores new after t

-- while a table goes into its file each image is between the two
abbrev pub LeavesBetween : Shown → Shown → Book → List ℕ → Type 0
LeavesBetween old new b file = (t : Table) → Stores file b t → LeavesImages old new (IsBetween file (table_with b.place.head file) t)

-- and so is the file then
abbrev pub IsBetweenFor : Book → (old new : List ℕ) → Type 0
IsBetweenFor b old new = (t : Table) → Stores old b t → IsBetween old (table_with b.place.head old) t new
