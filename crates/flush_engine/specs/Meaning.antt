-- A book in memory, as its definitions see it. This project's own.
use Rattle.std.specs.Prelude.{◌≡◌, ℕ, List, Result, Ok, Err}
use Rattle.space_model.specs.Sizes.{segment_units}
use Rattle.slot_table.specs.BySlot.{by_slot, entries_in}
use Rattle.buddy_space.specs.SpaceState.{SpaceState}
use Rattle.book_model.specs.declared.change.Change.{Change}
use Rattle.book_model.specs.Book.{Book, Space, IsWellFormed, IsAlike}
use Rattle.book_model.specs.Planning.{serve_all, planned}
use Rattle.flush_engine.specs.declared.book.Book.{Book as KeptBook}
use Rattle.flush_engine.specs.declared.fault.PlanFault.{PlanFault}
use Rattle.flush_engine.specs.declared.fault.PlanFault.TheVariants.{Full}

-- its runs, without the room for more
abbrev pub runs_of : SpaceState → Space
runs_of s = record { segments = s.segments; taken = s.taken; deferred = s.deferred }

-- and its entries, without their slots
abbrev pub book_of : KeptBook → Book
book_of b = record { place = b.place; space = runs_of b.space; directory = entries_in (by_slot b.directory); cache = b.cache }

-- what is answered where the definition gives something, or this exponent
abbrev pub IsAnswer : {B : Type 0} → Result B ℕ → Result Unit PlanFault → Type 0
IsAnswer (Ok b) result = result ≡ Ok tt
IsAnswer (Err exp) result = result ≡ Err (Full exp)

-- All segments are there, and nothing else has changed.
pub record IsAsBefore (old new : KeptBook) : Type 0 where
  pub place : new.place ≡ old.place
  pub space : new.space ≡ record old.space { segments = old.place.head.max_segments }
  pub directory : new.directory ≡ old.directory
  pub cache : new.cache ≡ old.cache

-- What a plan leaves: the book is the planned one, but for the order of runs and entries, and the answer says whether the
-- command is full.
pub record IsPlanned (old new : KeptBook) (changes : List Change) (result : Result Unit PlanFault) : Type 0 where
  pub before : IsWellFormed segment_units (book_of old)
  pub answer : IsAnswer (serve_all segment_units (book_of old) changes) result
  pub alike : IsAlike (planned segment_units (book_of old) changes) (book_of new)
  pub after : IsWellFormed segment_units (book_of new)
