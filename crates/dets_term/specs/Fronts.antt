-- The order of two lists in two parts: by the elements that both have, then by what follows these.
use Rattle.std.specs.Prelude.{ℕ, List, [], ◌∷◌, map}
use Rattle.std.specs.declared.cmp.Ordering.{Ordering}
use Rattle.std.specs.declared.cmp.Ordering.TheVariants.{Equal}
use Rattle.std.specs.Ordering.{nat_cmp, ordering_then, match_ordering}
use Rattle.term_model.specs.TermValue.{TermValue}
use Rattle.term_model.specs.Order.{order}

-- the first elements that differ, of those at the places that both lists have
abbrev pub front_order : List TermValue → List TermValue → Ordering
front_order [] us = Equal
front_order (t ∷ ts) [] = Equal
front_order (t ∷ ts) (u ∷ us) = ordering_then (order t u) (front_order ts us)

-- what follows them, by rank, for two lists of so many elements that end in something of such a rank; the rest of
-- the longer list has rank 5
abbrev pub ends_order : ℕ → ℕ → ℕ → ℕ → Ordering
ends_order parts end others other_end =
    match_ordering (nat_cmp parts others) (nat_cmp end 5) (nat_cmp end other_end) (nat_cmp 5 other_end)

-- beside the keys of some pairs
abbrev pub values : List (TermValue × TermValue) → List TermValue
values pairs = map (λ p. p.1) pairs
