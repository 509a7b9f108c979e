-- Which blocks of a view are taken, why the other open units are rejected, and the table. This project's own.
use Rattle.std.specs.Prelude.{ℕ, ◌+◌, ◌^◌, Bool, ◌&&◌, nat_lt, nat_le, List, [], ◌∷◌, length, map, find, Option, Some, None, Ok, Err}
use Rattle.std.specs.List.{flat_map}
use Rattle.term_model.specs.TermValue.{TermValue}
use Rattle.term_model.specs.Order.{is_same}
use Rattle.table_model.specs.Table.{Table}
use Rattle.table_model.specs.Walk.{hash_of_key}
use Rattle.file_model.specs.declared.entry.Entry.{Entry}
use Rattle.file_model.specs.declared.reject.Reason.TheVariants.{Overlaps, KeyTaken}
use Rattle.file_model.specs.declared.reject.Reject.{Reject}
use Rattle.file_model.specs.Block.{Block, Standing}
use Rattle.file_model.specs.View.{OpenUnit, View}

-- whether a block has this unit among its own
abbrev pub covers : ℕ → Block → Bool
covers u b = nat_le b.unit u && nat_lt u (b.unit + 2 ^ b.exp)

abbrev pub block_has : TermValue → Block → Bool
block_has k b = is_same b.key k

-- ---- One block above those that are taken below it: it is taken where none of them covers its unit or has its key.

abbrev pub by_key : Block → Option Block → Standing
by_key b None = Ok b
by_key b (Some other) = Err (KeyTaken other.unit)

abbrev pub by_cover : List Block → Block → Option Block → Standing
by_cover below b None = by_key b (find (block_has b.key) below)
by_cover below b (Some other) = Err (Overlaps other.unit)

abbrev pub judged : List Block → Standing → Standing
judged below (Err reason) = Err reason
judged below (Ok b) = by_cover below b (find (covers b.unit) below)

-- ---- open units from the lowest up, above these blocks

abbrev pub taken_next : (List Block → List Block) → List Block → Standing → List Block
taken_next rest below (Err reason) = rest below
taken_next rest below (Ok b) = b ∷ rest (b ∷ below)

abbrev pub taken_above : List OpenUnit → List Block → List Block
taken_above [] below = []
taken_above (o ∷ os) below = taken_next (taken_above os) below (judged below o.stands)

abbrev pub rejects_next : (List Block → List Reject) → ℕ → List Block → Standing → List Reject
rejects_next rest u below (Err reason) = record { unit = u; reason = reason } ∷ rest below
rejects_next rest u below (Ok b) = rest (b ∷ below)

abbrev pub rejects_above : List OpenUnit → List Block → List Reject
rejects_above [] below = []
rejects_above (o ∷ os) below = rejects_next (rejects_above os) o.unit below (judged below o.stands)

-- ---- of a view

-- the taken blocks, by ascending unit
abbrev pub taken : View → List Block
taken v = taken_above v.open_units []

-- the other open units, by ascending unit, with the first reason of each
abbrev pub rejects : View → List Reject
rejects v = rejects_above v.open_units []

abbrev pub objects_in : List Block → List TermValue
objects_in blocks = flat_map (λ b. b.objects) blocks

-- the table is the objects of the taken blocks
abbrev pub table_of : View → Table
table_of v = record { kind = v.head.kind; keypos = v.head.keypos; objects = objects_in (taken v) }

-- ---- what is known of a block without its objects

-- the hash of a key; it stays folded where it is cited
unfoldable pub key_hash : TermValue → ℕ
key_hash k = hash_of_key k

abbrev pub entry_of : Block → Entry
entry_of b = record { hash = key_hash b.key; unit = b.unit; exp = b.exp; count = length b.objects }

abbrev pub entries : View → List Entry
entries v = map entry_of (taken v)
