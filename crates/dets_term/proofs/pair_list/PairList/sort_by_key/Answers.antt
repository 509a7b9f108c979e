use Rattle.std.proofs.Common.{sym, ◌∙◌, rules, is_lt}
use Rattle.std.proofs.lemmas.List.Sorted.{ranks_by, answers_always}
use Rattle.term_model.specs.TermValue.{TermValue}
use Rattle.term_model.specs.Order.{order}
use Rattle.dets_term.proofs.PairParts.{ArePairs-permutation, deepest_of_pairs-permutation}
use Rattle.term_model.specs.OrderCode.{order_total}
use Rattle.dets_term.proofs.pair_list.PairList.sort_by_key.Goals as goal

pub invariant_of-self : goal.invariant_of-self
invariant_of-self c =
    let moved = c.sort_unstable_by.ensures.permutation in
    (c.self.invariant.0 ∙ sym (deepest_of_pairs-permutation _ _ moved), ArePairs-permutation _ _ moved c.self.invariant.1)

pub returns-clause-sorted : goal.returns-clause-sorted
returns-clause-sorted c =
    c.sort_unstable_by.ensures.sorted (λ p q. is_lt (order p.0 q.0)) (ranks_by order_total (λ (p : TermValue × TermValue). p.0))
    (answers_always _ _ _ (λ f a r f' k. search rules))
