-- Small tables that worked rows look into.
use Rattle.std.specs.Prelude.{ℕ, ℤ, [], ◌∷◌, List, Result, Ok, Err}
use Rattle.term_model.specs.TermValue.{TermValue}
use Rattle.term_model.specs.Written.{word, number, pair}
use Rattle.term_model.specs.declared.kind.Kind.{Kind}
use Rattle.term_model.specs.declared.kind.Kind.TheVariants.{Set, Bag, DuplicateBag}
use Rattle.table_model.specs.Table.{Table, empty_table}
use Rattle.table_model.specs.Operations.{insert_objects}
use Rattle.table_model.specs.Counter.{CounterFault, Counted, update_counter, usual_place}

-- a table in which these objects were inserted, in order
abbrev pub filled : Kind → ℕ → List TermValue → Table
filled kind keypos objects = insert_objects (empty_table kind keypos) objects

-- {a,1}, {a,1}, {b,1} and {a,2}
abbrev pub four_objects : List TermValue
four_objects = pair (word "a") (number 1) ∷ pair (word "a") (number 1) ∷ pair (word "b") (number 1) ∷ pair (word "a") (number 2) ∷ []

-- {1,x}, {2,x} and then {1,y}
abbrev pub numbered_set : Table
numbered_set = filled Set 1 (pair (number 1) (word "x") ∷ pair (number 2) (word "x") ∷ pair (number 1) (word "y") ∷ [])

-- {1,x}, {2,x} and {3,x}
abbrev pub small_set : Table
small_set = filled Set 1 (pair (number 1) (word "x") ∷ pair (number 2) (word "x") ∷ pair (number 3) (word "x") ∷ [])

-- {1,a}, {1,b} and then {2,a}, with the key in the second place
abbrev pub second_place_set : Table
second_place_set = filled Set 2 (pair (number 1) (word "a") ∷ pair (number 1) (word "b") ∷ pair (number 2) (word "a") ∷ [])

-- {a,1}, {a,1} and then {a,2}
abbrev pub small_bag : Table
small_bag = filled Bag 1 (pair (word "a") (number 1) ∷ pair (word "a") (number 1) ∷ pair (word "a") (number 2) ∷ [])

-- {a,1} and {a,1}
abbrev pub small_duplicate_bag : Table
small_duplicate_bag = filled DuplicateBag 1 (pair (word "a") (number 1) ∷ pair (word "a") (number 1) ∷ [])

-- {7,0} and {3,0}
abbrev pub two_numbers : Table
two_numbers = filled Set 1 (pair (number 7) (number 0) ∷ pair (number 3) (number 0) ∷ [])

-- {n,5}
abbrev pub one_counter : Table
one_counter = filled Set 1 (pair (word "n") (number 5) ∷ [])

abbrev pub counted_or : Table → Result Counted CounterFault → Table
counted_or table (Ok new) = new.table
counted_or table (Err fault) = table

-- a table after the counter of a key behind it is incremented
abbrev pub incremented : Table → TermValue → ℤ → Table
incremented table k increment = counted_or table (update_counter table k (usual_place table) increment)
