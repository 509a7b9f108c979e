-- How what is seen of a file changes with its gates: units that hold blocks which do not meet, before and after gates
-- are opened and closed. This project's own.
use Rattle.std.specs.Prelude.{◌≡◌, ◌≤◌, ◌<◌, ◌⊎◌, ℕ, zero, suc, ◌+◌, ◌^◌, Bool, true, false, cond, not, ◌&&◌, ◌||◌, ◌==◌, List, [], map, Some, Ok, Err}
use Rattle.std.specs.List.{list_any}
use Rattle.term_model.specs.TermValue.{TermValue}
use Rattle.table_model.specs.Table.{Table, objects_of}
use Rattle.file_model.specs.declared.head.Head.{Head}
use Rattle.file_model.specs.Block.{Block, Standing, one_key}
use Rattle.file_model.specs.View.{Units, View, view}
use Rattle.file_model.specs.Taken.{block_has, rejects, table_of}

abbrev pub Gates : Type 0
Gates = ℕ → Bool

-- the same units with other gates open
abbrev pub with_gates : Units → Gates → Units
with_gates units gates = record units { is_open = gates }

-- ---- what holds of units

-- A block that stands at a unit is one of this unit, and its objects are some that the kind allows for its key.
pub record IsRead (h : Head) (u : ℕ) (b : Block) : Type 0 where
  pub unit : b.unit ≡ u
  pub key : one_key h.kind h.keypos b.objects ≡ Some b.key

abbrev pub AreRead : Head → Units → Type 0
AreRead h units = (u : ℕ) (b : Block) → units.stands u ≡ Ok b → IsRead h u b

-- a block stands at an open unit
pub record StandsOpen (gates : Gates) (units : Units) (u : ℕ) (b : Block) : Type 0 where
  pub inside : u < units.count
  pub opened : gates u ≡ true
  pub stands : units.stands u ≡ Ok b

-- no two blocks at open units meet
abbrev pub NoneMeet : Gates → Units → Type 0
NoneMeet gates units = (u w : ℕ) (b c : Block) → StandsOpen gates units u b → StandsOpen gates units w c → u < w → u + 2 ^ b.exp ≤ w

-- no two blocks at open units have the same key
abbrev pub NoneShareKeys : Gates → Units → Type 0
NoneShareKeys gates units = (u w : ℕ) (b c : Block) → StandsOpen gates units u b → StandsOpen gates units w c → u < w → b.key ≡ c.key → ⊥

-- each open unit has a block
abbrev pub HaveBlocks : Gates → Units → Type 0
HaveBlocks gates units = (u : ℕ) → u < units.count → gates u ≡ true → (b : Block) × (units.stands u ≡ Ok b)

-- each open gate is that of a taken block
pub record OpenAtTaken (units : Units) : Type 0 where
  pub blocks : HaveBlocks units.is_open units
  pub apart : NoneMeet units.is_open units
  pub keys : NoneShareKeys units.is_open units

-- ---- the lowest block of a key

abbrev pub standing_has : TermValue → Standing → Bool
standing_has k (Err reason) = false
standing_has k (Ok b) = block_has k b

abbrev pub standing_objects : Standing → List TermValue
standing_objects (Err reason) = []
standing_objects (Ok b) = b.objects

-- the objects of the lowest block with this key at an open unit, among so many units from one on
abbrev pub lowest_objects : Gates → (ℕ → Standing) → TermValue → ℕ → ℕ → List TermValue
lowest_objects gates stands k zero u = []
lowest_objects gates stands k (suc n) u = cond (standing_has k (stands u) && gates u) (standing_objects (stands u)) (lowest_objects gates stands k n (suc u))

-- ---- views and gates that change

-- Units are seen alike: their gates are alike, and what stands behind open ones.
pub record SeenAlike (old new : Units) : Type 0 where
  pub count : new.count ≡ old.count
  pub gates : (u : ℕ) → u < old.count → new.is_open u ≡ old.is_open u
  pub behind : (u : ℕ) → u < old.count → old.is_open u ≡ true → new.stands u ≡ old.stands u

-- gates of which these are open, and besides them none but some of those
pub record OpenBetween (least others now : Gates) : Type 0 where
  pub at_least : (u : ℕ) → least u ≡ true → now u ≡ true
  pub at_most : (u : ℕ) → now u ≡ true → (least u ≡ true) ⊎ (others u ≡ true)

abbrev pub either : Gates → Gates → Gates
either p q u = p u || q u

abbrev pub table_with : Head → Units → Gates → Table
table_with h units gates = table_of (view h (with_gates units gates))

-- each key has its objects in one of two tables
pub record OldOrNew (old new now : Table) : Type 0 where
  pub kind : now.kind ≡ old.kind
  pub keypos : now.keypos ≡ old.keypos
  pub objects : (k : TermValue) → (objects_of now k ≡ objects_of old k) ⊎ (objects_of now k ≡ objects_of new k)

-- What a flush needs of its gates: no block behind one of before or after meets another one, and no key has two blocks
-- before, or two after.
pub record MayFlush (h : Head) (units : Units) (before after : Gates) : Type 0 where
  pub read : AreRead h units
  pub apart : NoneMeet (either before after) units
  pub keys_before : NoneShareKeys before units
  pub keys_after : NoneShareKeys after units

-- ---- gates of some units

abbrev pub is_among : List ℕ → ℕ → Bool
is_among us u = list_any (λ w. w == u) us

abbrev pub opened : List ℕ → Gates → Gates
opened us gates u = gates u || is_among us u

abbrev pub closed : List ℕ → Gates → Gates
closed us gates u = gates u && not (is_among us u)

-- ---- rejects

abbrev pub rejected_units : View → List ℕ
rejected_units v = map (λ r. r.unit) (rejects v)

-- these gates are open in a file, but for some of its rejects
pub record ClosesRejects (h : Head) (units : Units) (now : Gates) : Type 0 where
  pub no_others : (u : ℕ) → now u ≡ true → units.is_open u ≡ true
  pub rejected : (u : ℕ) → u < units.count → units.is_open u ≡ true → now u ≡ false → is_among (rejected_units (view h units)) u ≡ true
