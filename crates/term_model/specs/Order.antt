-- The order of terms: integer, atom, tuple, mapping, empty list, other list, bit string. After the term order of the
-- Erlang reference manual; that a list goes by its first element and what follows it, and maps by their keys and
-- then their values, is stated there too.
use Rattle.std.specs.Prelude.{ℕ, Bool, length}
use Rattle.std.specs.declared.cmp.Ordering.{Ordering}
use Rattle.std.specs.Ordering.{nat_cmp, int_cmp, bool_cmp, ordering_then, is_eq}
use Rattle.std.specs.Cmp.Lexicographic.{slice_cmp}
use Rattle.term_model.specs.TermValue.{TermValue, integer, atom, tuple, mapping, nil, cons, bits, elements}

-- the place of a kind among the kinds
abbrev pub rank : TermValue → ℕ
rank (integer z) = 0
rank (atom name) = 1
rank (tuple parts) = 2
rank (mapping keys values) = 3
rank nil = 4
rank (cons first rest) = 5
rank (bits bs) = 6

-- by the number of their elements, for two lists
abbrev pub by_count : TermValue → TermValue → Ordering
by_count ts us = nat_cmp (length (elements ts)) (length (elements us))

-- Integers go by value, atoms code point by code point, tuples by size and then by their elements, maps by size,
-- then by their keys and then by their values, bit strings bit by bit; a front of an atom or a bit string is less.
abbrev pub order : TermValue → TermValue → Ordering
order (integer y) (integer z) = int_cmp y z
order (atom a) (atom b) = slice_cmp nat_cmp a b
order (tuple ts) (tuple us) = ordering_then (by_count ts us) (order ts us)
order (mapping ks vs) (mapping ls ws) = ordering_then (by_count ks ls) (ordering_then (order ks ls) (order vs ws))
order (cons t ts) (cons u us) = ordering_then (order t u) (order ts us)
order (bits a) (bits b) = slice_cmp bool_cmp a b
order a b = nat_cmp (rank a) (rank b)

-- Whether two values are equal: neither is less.
abbrev pub is_same : TermValue → TermValue → Bool
is_same a b = is_eq (order a b)
