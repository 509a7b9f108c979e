-- Lists in order, each element by a term of its own.
use Rattle.std.specs.Prelude.{cond, List, [], ◌∷◌}
use Rattle.std.specs.Ordering.{is_lt}
use Rattle.term_model.specs.TermValue.{TermValue}
use Rattle.term_model.specs.Order.{order}

-- an element in front of the first one with a greater term
abbrev pub placed_by : {A : Type 0} → (A → TermValue) → A → List A → List A
placed_by f x [] = x ∷ []
placed_by f x (y ∷ ys) = cond (is_lt (order (f x) (f y))) (x ∷ y ∷ ys) (y ∷ placed_by f x ys)

-- some elements by ascending term
abbrev pub sorted_by : {A : Type 0} → (A → TermValue) → List A → List A
sorted_by f [] = []
sorted_by f (x ∷ xs) = placed_by f x (sorted_by f xs)

-- some terms, ascending; equal ones stay, next to each other
abbrev pub ascending : List TermValue → List TermValue
ascending ts = sorted_by (λ t. t) ts
