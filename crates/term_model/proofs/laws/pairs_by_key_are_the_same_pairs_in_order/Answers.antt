use Rattle.term_model.specs.Sorting.{IsPermutation-sorted_by, IsSortedByKey-sorted_by}
use Rattle.term_model.proofs.laws.pairs_by_key_are_the_same_pairs_in_order.Goals as goal

pub returns-clause-same : goal.returns-clause-same
returns-clause-same c = IsPermutation-sorted_by (λ p. p.0)

pub returns-clause-in_order : goal.returns-clause-in_order
returns-clause-in_order c = IsSortedByKey-sorted_by (λ p. p.0)
