-- Pairs of a key and a value by ascending key, and what building a map of pairs answers. A map is its pairs whatever
-- their order, and has each key once, as in the reference manual's chapter on maps.
use Rattle.std.specs.Prelude.{◌^◌, Bool, false, cond, ◌&&◌, ◌||◌, nat_lt, List, [], ◌∷◌, map, length, Result, Err}
use Rattle.std.specs.List.{list_any}
use Rattle.term_model.specs.declared.term_fault.TermFault.{TermFault}
use Rattle.term_model.specs.declared.term_fault.TermFault.TheVariants.{RepeatedKey}
use Rattle.term_model.specs.TermValue.{TermValue, map_of}
use Rattle.term_model.specs.Order.{is_same}
use Rattle.term_model.specs.Sorted.{placed_by, sorted_by}
use Rattle.term_model.specs.IsTerm.{built}

abbrev pub keys : List (TermValue × TermValue) → List TermValue
keys pairs = map (λ p. p.0) pairs

-- a pair in front of the first one with a greater key
abbrev pub placed : (TermValue × TermValue) → List (TermValue × TermValue) → List (TermValue × TermValue)
placed pair pairs = placed_by (λ p. p.0) pair pairs

-- some pairs by ascending key
abbrev pub by_key : List (TermValue × TermValue) → List (TermValue × TermValue)
by_key pairs = sorted_by (λ p. p.0) pairs

-- whether one of these terms stands in them twice
abbrev pub repeats : List TermValue → Bool
repeats [] = false
repeats (k ∷ ks) = list_any (is_same k) ks || repeats ks

-- what building a map answers: too many pairs come before a repeated key, and that before too many levels
abbrev pub map_built : List (TermValue × TermValue) → Result TermValue TermFault
map_built pairs =
    cond (nat_lt (length pairs) (2 ^ 32) && repeats (keys pairs)) (Err RepeatedKey) (built (length pairs) (map_of (by_key pairs)))
