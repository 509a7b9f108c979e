-- A change whose new block has its place comes into the book. This project's own.
use Rattle.std.specs.Prelude.{◌≡◌, ◌≤◌, ◌<◌, ◌-◌, ◌^◌, ℕ, List, ◌∷◌, length, IfSome, Option, Some, None, option_map}
use Rattle.space_model.specs.Slots.{slot_of}
use Rattle.space_model.specs.Apart.{In}
use Rattle.file_model.specs.declared.block.Packed.{Packed}
use Rattle.file_model.specs.declared.entry.Entry.{Entry}
use Rattle.write_cache.specs.declared.pending.Pending.{Pending}
use Rattle.write_cache.specs.Waiting.{state_of}
use Rattle.buddy_space.specs.SpaceState.{SpaceState, deferring}
use Rattle.slot_table.specs.BySlot.{Slot, BySlot, by_slot, spare_at, entries_in, HasRoomFor, with_entry, without, LacksUnit}
use Rattle.book_model.specs.declared.change.Change.{Change}
use Rattle.book_model.specs.Book.{entry_run, new_entry}
use Rattle.book_model.specs.Planning.{stands_for}
use Rattle.flush_engine.specs.declared.book.Book.{Book}

-- ---- the old block

-- the run of a block that stands in the file is deferred
abbrev pub left_runs : Option Pending → Option Entry → SpaceState → SpaceState
left_runs (Some state) old s = s
left_runs None None s = s
left_runs None (Some e) s = deferring s (entry_run e)

abbrev pub left_entries : Option Entry → BySlot → BySlot
left_entries None b = b
left_entries (Some e) b = without b e.hash e.unit

-- ---- the new block

-- its entry, none where there is no block
abbrev pub next_entry : ℕ → ℕ → Option Packed → Option Entry
next_entry hash unit next = option_map (new_entry hash unit) next

abbrev pub come_entries : Option Entry → BySlot → BySlot
come_entries None b = b
come_entries (Some e) b = with_entry b e

-- in front of others, if it is there
abbrev pub in_front : Option Entry → List Entry → List Entry
in_front None es = es
in_front (Some e) es = e ∷ es

-- what can come into slots: there is room, and no entry has the unit
pub record MayCome (slots : List Slot) (e : Entry) : Type 0 where
  pub room : 1 ≤ spare_at slots (slot_of e.hash (length slots))
  pub lacks : LacksUnit (by_slot slots) e.unit
  pub few : length (entries_in (by_slot slots)) < 2 ^ 32 - 1

-- ---- the state

-- the key waits with its new block
abbrev pub next_state : Change → ℕ → Option Pending → Pending
next_state c unit earlier = record { block = c.next; unit = unit; hash = c.hash; old = stands_for earlier c.old }

-- ---- all of it

-- What a change needs, to come into a book: the run of the block that stands in the file is taken, one more can be deferred,
-- and the new entry may come once the old one is gone.
pub record MayEnter (b : Book) (c : Change) (unit : ℕ) : Type 0 where
  pub taken : state_of b.cache c.key ≡ None → IfSome c.old (λ e. In (entry_run e) b.space.taken)
  pub spare : 1 ≤ b.space.spare
  pub slots : 1 ≤ length b.directory
  pub room : (es : List Entry) × HasRoomFor b.directory (in_front (next_entry c.hash unit c.next) es)
  pub lacks : IfSome (next_entry c.hash unit c.next) (λ e. LacksUnit (left_entries c.old (by_slot b.directory)) e.unit)
  pub few : length (entries_in (left_entries c.old (by_slot b.directory))) < 2 ^ 32 - 1
