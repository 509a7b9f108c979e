-- What `is_sorted_by` answers of the keys of pairs.
use Rattle.std.proofs.Common.{◌≡◌, Bool, true, false, List, [], ◌∷◌, ◌↔◌, IsTrue, refl, ap, ◌∙◌, sym}
use Rattle.std.specs.List.{IsAllAdjacentAnswer}
use Rattle.std.specs.declared.cmp.Ordering.TheVariants.{Less}
use Rattle.std.specs.Ordering.{is_lt}
use Rattle.term_model.specs.TermValue.{TermValue, nil}
use Rattle.term_model.specs.Order.{order}
use Rattle.term_model.specs.IsTerm.{AreAscending}
use Rattle.term_model.specs.Pairs.{keys}
use Rattle.term_model.specs.Adjacent.{Adjacent, adjacent_from_places, places_from_adjacent}
use Rattle.term_model.specs.Sorting.{less-is}

abbrev Pair : Type 0
Pair = TermValue × TermValue

-- a pair's key is less than the next one's
abbrev Below : Pair → Pair → Type 0
Below p q = order p.0 q.0 ≡ Less

AreAscending-from : (qs : List Pair) → Adjacent Below qs → AreAscending (keys qs)
AreAscending-from [] a = tt
AreAscending-from (q ∷ []) a = (tt, tt)
AreAscending-from (q ∷ r ∷ qs) a = (a.0, AreAscending-from (r ∷ qs) a.1)

Adjacent-from : (qs : List Pair) → AreAscending (keys qs) → Adjacent Below qs
Adjacent-from [] a = tt
Adjacent-from (q ∷ []) a = (tt, tt)
Adjacent-from (q ∷ r ∷ qs) a = (a.0, Adjacent-from (r ∷ qs) a.1)

pub ascend_answer : (qs : List Pair) (b : Bool) → IsAllAdjacentAnswer (λ p q c. c ≡ is_lt (order p.0 q.0)) qs b → IsTrue b ↔ AreAscending (keys qs)
ascend_answer qs true a = (λ _. AreAscending-from qs (adjacent_from_places Below qs (λ k d l. less-is _ (sym (a k d l)))), λ _. refl)
ascend_answer qs false a = (
  λ e. absurd (let none : false ≡ true = e in cc),
  λ up. let less = places_from_adjacent Below qs (Adjacent-from qs up) a.0 (nil, nil) a.1 in a.2 (nil, nil) ∙ ap is_lt less,
)
