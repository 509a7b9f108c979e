use Rattle.term_model.specs.Sorting.{IsSortedByKey-sorted_by}
use Rattle.table_model.specs.Walk.{keys_in, walk_place}
use Rattle.table_model.proofs.walk_laws.keys_are_walked_by_slot_and_then_by_term.Goals as goal

pub returns-clause-in_order : goal.returns-clause-in_order
returns-clause-in_order c = λ slots table. IsSortedByKey-sorted_by (walk_place slots) (keys_in table)
