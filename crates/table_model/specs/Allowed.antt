-- Which objects a table may have, by its kind, after the dets reference manual.
use Rattle.std.specs.Prelude.{◌≡◌, ℕ, Bool, true, not, List, filter_map, is_some}
use Rattle.std.specs.List.{list_all}
use Rattle.term_model.specs.TermValue.{TermValue, key}
use Rattle.term_model.specs.Pairs.{repeats}
use Rattle.term_model.specs.declared.kind.Kind.{Kind}
use Rattle.term_model.specs.declared.kind.Kind.TheVariants.{Set, Bag, DuplicateBag}
use Rattle.table_model.specs.Table.{Table}

-- whether a term is an object: a tuple of at least keypos elements
abbrev pub is_object : ℕ → TermValue → Bool
is_object keypos t = is_some (key t keypos)

-- whether a kind allows these objects: a set has each key once, a bag each object once
abbrev pub allows : Kind → ℕ → List TermValue → Bool
allows Set keypos objects = not (repeats (filter_map (λ object. key object keypos) objects))
allows Bag keypos objects = not (repeats objects)
allows DuplicateBag keypos objects = true

pub record IsTable (table : Table) : Type 0 where
  pub objects : list_all (is_object table.keypos) table.objects ≡ true
  pub kind : allows table.kind table.keypos table.objects ≡ true
