use Rattle.std.proofs.Common.{◌↔◌, IsTrue, ◌∙◌, subst, rules, is_lt}
use Rattle.std.proofs.lemmas.List.Sorted.{answers_always}
use Rattle.term_model.specs.Order.{order}
use Rattle.term_model.specs.IsTerm.{AreAscending}
use Rattle.term_model.specs.Pairs.{keys}
use Rattle.dets_term.proofs.KeysAscend.{ascend_answer}
use Rattle.dets_term.proofs.pair_list.PairList.keys_ascend.Goals as goal

pub returns : goal.returns
returns c =
    let answer = c.is_sorted_by.ensures.cases (λ p q. is_lt (order p.0 q.0)) (answers_always _ _ _ (λ f a r f' k. search rules)) in
    subst (λ ps. IsTrue c.is_sorted_by.result ↔ AreAscending (keys ps)) (c.as_slice.ensures.value ∙ c.self.view_is)
    (ascend_answer c.as_slice.result.now c.is_sorted_by.result answer)
