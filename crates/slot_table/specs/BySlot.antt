-- The entries of a table, slot by slot. This project's own.
use Rattle.std.specs.Prelude.{◌≡◌, ◌≢◌, ◌≤◌, ◌<◌, ◌^◌, ℕ, Bool, not, ◌&&◌, nat_eq, List, [], ◌∷◌, ◌++◌, length, map, filter, get_or, set, flat_map, sum_by}
use Rattle.std.specs.List.{range_with_len}
use Rattle.space_model.specs.Apart.{In, Pairs}
use Rattle.space_model.specs.Slots.{slot_of}
use Rattle.file_model.specs.declared.entry.Entry.{Entry}

-- of one slot: its entries, and for how many more there is room
pub record Slot : Type 0 where
  pub entries : List Entry
  pub spare : ℕ

-- the entries of each slot
abbrev pub BySlot : Type 0
BySlot = List (List Entry)

abbrev pub by_slot : List Slot → BySlot
by_slot slots = map (λ s. s.entries) slots

abbrev pub spare_at : List Slot → ℕ → ℕ
spare_at slots k = get_or (map (λ s. s.spare) slots) k 0

abbrev pub entries_at : BySlot → ℕ → List Entry
entries_at b k = get_or b k []

-- all entries
abbrev pub entries_in : BySlot → List Entry
entries_in b = flat_map (λ es. es) b

-- the objects of all entries together
abbrev pub objects_in : BySlot → ℕ
objects_in b = sum_by (λ e. e.count) (entries_in b)

-- whether the slot of an entry, among so many, is this one
abbrev pub stands_in : ℕ → ℕ → Entry → Bool
stands_in slots slot e = nat_eq (slot_of e.hash slots) slot

-- whether an entry has this hash and this unit
abbrev pub is_block : ℕ → ℕ → Entry → Bool
is_block hash unit e = nat_eq e.hash hash && nat_eq e.unit unit

abbrev pub is_other : ℕ → ℕ → Entry → Bool
is_other hash unit e = not (is_block hash unit e)

-- each slot has room for those of these entries whose slot it is
abbrev pub HasRoomFor : List Slot → List Entry → Type 0
HasRoomFor slots es = (k : ℕ) → k < length slots → length (filter (stands_in (length slots) k) es) ≤ spare_at slots k

-- ---- what calls leave

-- with one more entry, last in its slot
abbrev pub with_entry : BySlot → Entry → BySlot
with_entry b e = set b (slot_of e.hash (length b)) (entries_at b (slot_of e.hash (length b)) ++ e ∷ [])

-- without the entry of a hash and a unit
abbrev pub without : BySlot → ℕ → ℕ → BySlot
without b hash unit = map (filter (is_other hash unit)) b

-- entries parted by their slots among so many, each slot in their order
abbrev pub parted : ℕ → List Entry → BySlot
parted slots es = map (λ slot. filter (stands_in slots slot) es) (range_with_len 0 slots)

-- ---- what a directory keeps

abbrev pub HasOtherUnit : Entry → Entry → Type 0
HasOtherUnit x y = x.unit ≢ y.unit

-- there is no entry with this unit
abbrev pub LacksUnit : BySlot → ℕ → Type 0
LacksUnit b unit = (e : Entry) → In e (entries_in b) → e.unit ≢ unit

-- There are at least 256 slots, each entry stands in its slot, and no two have the same unit.
pub record IsDirectory (b : BySlot) : Type 0 where
  pub many : 256 ≤ length b
  pub own : (k : ℕ) (e : Entry) → In e (entries_at b k) → slot_of e.hash (length b) ≡ k
  pub units : Pairs HasOtherUnit (entries_in b)

-- These are exactly the entries whose slot this is, each once.
pub record IsSlotOf (b : BySlot) (k : ℕ) (es : List Entry) : Type 0 where
  pub own : (e : Entry) → In e es → In e (entries_in b) × (slot_of e.hash (length b) ≡ k)
  pub all : (e : Entry) → In e (entries_in b) → slot_of e.hash (length b) ≡ k → In e es
  pub once : Pairs HasOtherUnit es

-- A directory of fewer than 2 ^ 32 slots, with its number of keys and of objects.
pub record IsKept (b : BySlot) (keys objects : ℕ) : Type 0 where
  pub directory : IsDirectory b
  pub few : length b < 2 ^ 32
  pub keys_are : keys ≡ length (entries_in b)
  pub objects_are : objects ≡ objects_in b
  pub counts : (e : Entry) → In e (entries_in b) → e.count < 2 ^ 32
