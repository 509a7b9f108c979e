-- The changes of a command that gives some keys new objects. This project's own.
use Rattle.std.specs.Prelude.{◌≡◌, false, List, [], ◌∷◌, None, Some}
use Rattle.std.specs.List.{list_any}
use Rattle.term_model.specs.TermValue.{TermValue}
use Rattle.term_model.specs.Order.{is_same}
use Rattle.table_model.specs.Table.{Table, objects_of}
use Rattle.etf_model.specs.Canonical.{spelled}
use Rattle.file_model.specs.declared.block.Packed.{Packed}
use Rattle.file_model.specs.Packing.{MayPack, IsBlockOf}
use Rattle.book_model.specs.declared.change.Change.{Change}

-- A change gives a key what it has in the new table: a block of its objects, none where it has no object.
pub record GivesKey (new : Table) (k : TermValue) (c : Change) : Type 0 where
  pub key : c.key ≡ spelled k
  pub none : c.next ≡ None → objects_of new k ≡ []
  pub may_pack : (p : Packed) → c.next ≡ Some p → MayPack (objects_of new k)
  pub block : (p : Packed) → c.next ≡ Some p → IsBlockOf (objects_of new k) p

-- the changes of these keys, in order
abbrev pub GiveKeys : Table → List TermValue → List Change → Type 0
GiveKeys new [] [] = Unit
GiveKeys new [] (c ∷ cs) = ⊥
GiveKeys new (k ∷ ks) [] = ⊥
GiveKeys new (k ∷ ks) (c ∷ cs) = GivesKey new k c × GiveKeys new ks cs

-- A table takes the place of another one of the same kind and keypos: keys that are not among these keep their objects.
pub record ChangesKeys (keys : List TermValue) (old new : Table) : Type 0 where
  pub kind : new.kind ≡ old.kind
  pub keypos : new.keypos ≡ old.keypos
  pub others : (k : TermValue) → list_any (is_same k) keys ≡ false → objects_of new k ≡ objects_of old k
