-- The keys of a table in the order of a walk, and what the ledger is told of them. This project's own.
use Rattle.std.specs.Prelude.{ℕ, max, Bool, cond, List, [], ◌∷◌, map, flat_map, length, Option, Some, None}
use Rattle.term_model.specs.TermValue.{TermValue, nil, chain}
use Rattle.term_model.specs.Sorted.{sorted_by}
use Rattle.term_model.specs.Hash.{hash_of}
use Rattle.term_model.specs.Written.{number, pair}
use Rattle.etf_model.specs.Canonical.{spelled}
use Rattle.space_model.specs.Slots.{slot_of}
use Rattle.space_model.specs.Ledger.{Touch}
use Rattle.table_model.specs.Table.{Table, objects_of}
use Rattle.table_model.specs.Touched.{keys_of, touched_among}

-- ---- slots

abbrev pub hash_of_key : TermValue → ℕ
hash_of_key k = hash_of (spelled k)

-- the slot of a key among so many
abbrev pub slot_of_key : ℕ → TermValue → ℕ
slot_of_key slots k = slot_of (hash_of_key k) slots

-- the keys of a table, each once
abbrev pub keys_in : Table → List TermValue
keys_in table = keys_of table.keypos table.objects

-- the number of slots of a table that is opened
abbrev pub slots_at_opening : Table → ℕ
slots_at_opening table = max 256 (length (keys_in table))

-- The number of slots after a command that leaves this table: it grows with the keys, unless the table is fixed.
abbrev pub slots_after : Bool → ℕ → Table → ℕ
slots_after is_fixed slots table = cond is_fixed slots (max slots (length (keys_in table)))

-- ---- walk order

-- The place of a key: keys go by their slot, and in a slot by the order of terms, as the pairs {Slot,Key} do.
abbrev pub walk_place : ℕ → TermValue → TermValue
walk_place slots k = pair (number (slot_of_key slots k)) k

abbrev pub walked_keys : ℕ → Table → List TermValue
walked_keys slots table = sorted_by (walk_place slots) (keys_in table)

-- all objects: the keys in walk order, the objects of a key ascending
abbrev pub walked : ℕ → Table → List TermValue
walked slots table = flat_map (objects_of table) (walked_keys slots table)

-- the keys that are touched where objects are deleted or a counter is updated, in walk order
abbrev pub touched_in_walk : ℕ → Table → Table → List TermValue
touched_in_walk slots old new = touched_among (walked_keys slots old) old new

-- ---- what the ledger is told

-- how many bytes the list of a key's objects takes in a file, none where there is none
abbrev pub list_bytes : List TermValue → Option ℕ
list_bytes [] = None
list_bytes (object ∷ objects) = Some (length (spelled (chain (object ∷ objects) nil)))

-- a key that an operation touched, with its objects in the new table
abbrev pub touch_of : Table → TermValue → Touch
touch_of new k = record { key = spelled k; bytes = list_bytes (objects_of new k) }

abbrev pub touches_of : Table → List TermValue → List Touch
touches_of new keys = map (touch_of new) keys
