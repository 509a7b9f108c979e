-- Terms as mathematical values: the data types of the External Term Format chapter of the ERTS User's
-- Guide, without floats, pids, ports, references and functions. A list is its first element and what follows it,
-- so an improper list needs no case of its own. A tuple holds the list of its elements.
use Rattle.std.specs.Prelude.{ℕ, zero, suc, ℤ, Bool, true, false, cond, max, List, [], ◌∷◌, map, slice_get, Option, None}

pub data TermValue : Type 0 where
  integer : ℤ → TermValue
  -- its characters, by their code points
  atom : List ℕ → TermValue
  tuple : TermValue → TermValue
  -- the list of its keys, ascending, and the list of their values
  mapping : TermValue → TermValue → TermValue
  nil : TermValue
  cons : TermValue → TermValue → TermValue
  -- its single bits, from the front
  bits : List Bool → TermValue

-- a list of these elements that ends in this tail; the tail of a proper list is nil
abbrev pub chain : List TermValue → TermValue → TermValue
chain [] tail = tail
chain (t ∷ ts) tail = cons t (chain ts tail)

-- a map of these pairs of a key and a value, which are to ascend by key
abbrev pub map_of : List (TermValue × TermValue) → TermValue
map_of pairs = mapping (chain (map (λ p. p.0) pairs) nil) (chain (map (λ p. p.1) pairs) nil)

-- the elements of a list, without what an improper one ends in
abbrev pub elements : TermValue → List TermValue
elements (cons first rest) = first ∷ elements rest
elements other = []

-- a list, proper or improper, the empty one among them
abbrev pub is_list : TermValue → Bool
is_list nil = true
is_list (cons first rest) = true
is_list other = false

-- the greatest depth among the parts of a term, 0 where there is none; what follows the first element
-- of a list is no part of it, unless it is the tail of an improper one
abbrev pub parts_depth : TermValue → ℕ
parts_depth (integer z) = 0
parts_depth (atom name) = 0
parts_depth (tuple parts) = parts_depth parts
parts_depth (mapping keys values) = max (parts_depth keys) (parts_depth values)
parts_depth nil = 0
parts_depth (cons first rest) = max (suc (parts_depth first)) (cond (is_list rest) (parts_depth rest) (suc (parts_depth rest)))
parts_depth (bits bs) = 0

-- A term without parts has depth 1, and any other one more than the deepest of its parts.
abbrev pub depth : TermValue → ℕ
depth t = suc (parts_depth t)

-- the element at a place, counted from 1
abbrev at_place : List TermValue → ℕ → Option TermValue
at_place ts zero = None
at_place ts (suc place) = slice_get ts place

-- The key of an object: its element at keypos. Only a tuple of at least keypos elements has one.
abbrev pub key : TermValue → ℕ → Option TermValue
key (tuple parts) keypos = at_place (elements parts) keypos
key other keypos = None
