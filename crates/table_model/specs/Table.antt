-- A table of the dets reference manual: it has a kind, a position of the key, and a list of objects.
use Rattle.std.specs.Prelude.{ℕ, Bool, false, cond, not, List, [], ◌∷◌, ◌++◌, filter, Option, Some, None}
use Rattle.std.specs.List.{list_any}
use Rattle.term_model.specs.TermValue.{TermValue, key}
use Rattle.term_model.specs.Order.{is_same}
use Rattle.term_model.specs.Sorted.{ascending}
use Rattle.term_model.specs.declared.kind.Kind.{Kind}
use Rattle.term_model.specs.declared.kind.Kind.TheVariants.{Set, Bag, DuplicateBag}

pub record Table : Type 0 where
  pub kind : Kind
  pub keypos : ℕ
  pub objects : List TermValue

-- a table without objects
abbrev pub empty_table : Kind → ℕ → Table
empty_table kind keypos = record { kind = kind; keypos = keypos; objects = [] }

-- whether a key is there and is this one
abbrev pub is_key : TermValue → Option TermValue → Bool
is_key k None = false
is_key k (Some found) = is_same found k

-- whether an object has this key
abbrev pub has_key : ℕ → TermValue → TermValue → Bool
has_key keypos k object = is_key k (key object keypos)

-- whether an object has the key of another one
abbrev pub shares_key : ℕ → Option TermValue → TermValue → Bool
shares_key keypos None object = false
shares_key keypos (Some k) object = has_key keypos k object

-- the objects of a key, ascending
abbrev pub objects_of : Table → TermValue → List TermValue
objects_of table k = ascending (filter (has_key table.keypos k) table.objects)

-- The objects after one is inserted: in a set it takes the place of the one with its key, in a bag it is added
-- unless it is there already, and in a duplicate bag it is added.
abbrev pub with_object : Kind → ℕ → List TermValue → TermValue → List TermValue
with_object Set keypos objects object = filter (λ other. not (shares_key keypos (key object keypos) other)) objects ++ object ∷ []
with_object Bag keypos objects object = cond (list_any (is_same object) objects) objects (objects ++ object ∷ [])
with_object DuplicateBag keypos objects object = objects ++ object ∷ []

-- the table after an object is inserted
abbrev pub insert_object : Table → TermValue → Table
insert_object table object = record table { objects = with_object table.kind table.keypos table.objects object }
