-- What the turns of a loop over the slots leave. This project's own.
use Rattle.std.specs.Prelude.{◌≡◌, ◌≤◌, ◌<◌, ◌⊎◌, ℕ, ◌+◌, ◌-◌, List, [], ◌∷◌, length, map, filter, take}
use Rattle.std.specs.List.{range_with_len}
use Rattle.space_model.specs.Apart.{In}
use Rattle.space_model.specs.Slots.{slot_of}
use Rattle.file_model.specs.declared.entry.Entry.{Entry}
use Rattle.slot_table.specs.BySlot.{Slot, BySlot, by_slot, spare_at, entries_at, stands_in, with_entry}

-- with each of these entries, in turn
abbrev pub with_each : BySlot → List Entry → BySlot
with_each b [] = b
with_each b (e ∷ es) = with_each (with_entry b e) es

-- Each slot has lost as many of its last entries as there are of these in it, and has the room that they had.
pub record IsPopped (old new : List Slot) (es : List Entry) : Type 0 where
  pub long : length new ≡ length old
  pub entries : (k : ℕ) → entries_at (by_slot new) k
      ≡ take (length (entries_at (by_slot old) k) - length (filter (stands_in (length old) k) es)) (entries_at (by_slot old) k)
  pub room : (k : ℕ) → k < length old
      → spare_at new k + length (entries_at (by_slot new) k) ≡ spare_at old k + length (entries_at (by_slot old) k)

-- the entries of a new slot, of those of the slot that is split
abbrev pub part_at : BySlot → ℕ → ℕ → List Entry
part_at b slots slot = filter (stands_in slots slot) (entries_at b (slot_of slot (length b)))

-- the entries of so many new slots
abbrev pub parts : BySlot → ℕ → ℕ → BySlot
parts b slots many = map (part_at b slots) (range_with_len (length b) many)

-- Slots behind the old ones stay. Each old one has still its own entries and, of those that go, at most those of the slots
-- from this one on.
pub record IsSplit (b : BySlot) (slots upto : ℕ) (new : BySlot) : Type 0 where
  pub long : length new ≡ length b + (slots - length b)
  pub fresh : (k : ℕ) → length b ≤ k → k < slots → entries_at new k ≡ part_at b slots k
  pub own : (k : ℕ) → k < length b → filter (stands_in slots k) (entries_at new k) ≡ filter (stands_in slots k) (entries_at b k)
  pub left : (k : ℕ) (e : Entry) → k < length b → In e (entries_at new k)
      → (slot_of e.hash (length b) ≡ k) × ((slot_of e.hash slots ≡ k) ⊎ (upto ≤ slot_of e.hash slots))
