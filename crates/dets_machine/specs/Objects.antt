-- What the objects of a set with keypos 1 keep, so that the reply to a lookup is a term.
use Rattle.std.specs.Prelude.{◌≤◌, List, length, filter}
use Rattle.dets_term.specs.TermValue.{TermValue}
use Rattle.dets_term.specs.Parts.{deepest}
use Rattle.table_model.specs.Table.{has_key}

pub record AreOfSet (objects : List TermValue) : Type 0 where
  pub shallow : deepest objects ≤ 255
  pub one_of_a_key : (k : TermValue) → length (filter (has_key 1 k) objects) ≤ 1
