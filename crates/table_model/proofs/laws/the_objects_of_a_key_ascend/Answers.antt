use Rattle.std.specs.Prelude.{filter}
use Rattle.term_model.specs.Sorting.{IsPermutation-sorted_by, IsSortedByKey-sorted_by}
use Rattle.table_model.specs.Table.{has_key}
use Rattle.table_model.proofs.laws.the_objects_of_a_key_ascend.Goals as goal

pub returns-clause-same : goal.returns-clause-same
returns-clause-same c = λ table k. IsPermutation-sorted_by (λ t. t) (filter (has_key table.keypos k) table.objects)

pub returns-clause-in_order : goal.returns-clause-in_order
returns-clause-in_order c = λ table k. IsSortedByKey-sorted_by (λ t. t) (filter (has_key table.keypos k) table.objects)
