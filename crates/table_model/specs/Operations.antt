-- What the operations leave of a table, after insert/2, insert_new/2, member/2, delete/2, delete_object/2 and
-- delete_all_objects/1 of the dets reference manual.
use Rattle.std.specs.Prelude.{◌≡◌, Bool, true, cond, not, List, [], filter, fold}
use Rattle.std.specs.List.{list_any, list_all}
use Rattle.term_model.specs.TermValue.{TermValue, key}
use Rattle.term_model.specs.Order.{is_same}
use Rattle.table_model.specs.Table.{Table, has_key, shares_key, objects_of, insert_object}

-- the table after objects are inserted, in order
abbrev pub insert_objects : Table → List TermValue → Table
insert_objects table objects = fold insert_object table objects

-- whether an object with this key is there
abbrev pub is_member : Table → TermValue → Bool
is_member table k = list_any (has_key table.keypos k) table.objects

-- whether no object with the key of this one is there
abbrev pub has_new_key : Table → TermValue → Bool
has_new_key table object = not (list_any (shares_key table.keypos (key object table.keypos)) table.objects)

-- The reply of insert_new: whether the keys of all these objects are new. Objects of the list may share a key.
abbrev pub are_new : Table → List TermValue → Bool
are_new table objects = list_all (has_new_key table) objects

-- a key of these objects that is there
pub record KnownKey (table : Table) (objects : List TermValue) : Type 0 where
  pub key : TermValue
  pub inserted : list_any (has_key table.keypos key) objects ≡ true
  pub member : is_member table key ≡ true

-- the table after insert_new: all objects are inserted, or none where a key is there already
abbrev pub insert_new_objects : Table → List TermValue → Table
insert_new_objects table objects = cond (are_new table objects) (insert_objects table objects) table

-- the table without the objects that pass a test
abbrev pub delete_where : (TermValue → Bool) → Table → Table
delete_where test table = record table { objects = filter (λ object. not (test object)) table.objects }

-- the table without the objects of a key
abbrev pub delete_key : Table → TermValue → Table
delete_key table k = delete_where (has_key table.keypos k) table

-- the table without each instance of an object
abbrev pub delete_object : Table → TermValue → Table
delete_object table object = delete_where (is_same object) table

abbrev pub delete_all_objects : Table → Table
delete_all_objects table = record table { objects = [] }

-- Two tables are the same where each key has the same objects in both, in whatever order they were inserted.
pub record IsSameTable (a b : Table) : Type 0 where
  pub kind : a.kind ≡ b.kind
  pub keypos : a.keypos ≡ b.keypos
  pub objects : (k : TermValue) → objects_of a k ≡ objects_of b k
