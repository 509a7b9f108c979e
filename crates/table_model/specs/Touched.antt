-- Which keys an operation touches, and in which order. This project's own.
use Rattle.std.specs.Prelude.{ℕ, Bool, not, List, [], ◌∷◌, filter, filter_map}
use Rattle.term_model.specs.TermValue.{TermValue, nil, chain, key}
use Rattle.term_model.specs.Order.{is_same}
use Rattle.table_model.specs.Table.{Table, objects_of}

-- some terms, each once, where it stands first
abbrev pub distinct : List TermValue → List TermValue
distinct [] = []
distinct (t ∷ ts) = t ∷ filter (λ u. not (is_same t u)) (distinct ts)

-- the keys of some objects, each once, in the order of the first object with it
abbrev pub keys_of : ℕ → List TermValue → List TermValue
keys_of keypos objects = distinct (filter_map (λ object. key object keypos) objects)

-- whether two lists have the same terms in the same places
abbrev pub are_same : List TermValue → List TermValue → Bool
are_same ts us = is_same (chain ts nil) (chain us nil)

-- whether a key has other objects in a new table than in the old one
abbrev pub is_touched : Table → Table → TermValue → Bool
is_touched old new k = not (are_same (objects_of old k) (objects_of new k))

-- of these keys, those that are touched where the new table takes the place of the old one
abbrev pub touched_among : List TermValue → Table → Table → List TermValue
touched_among keys old new = filter (is_touched old new) keys

-- The keys that are touched where these objects are inserted: a key has the place of the first object with it, whether
-- that object changes anything or not.
abbrev pub touched_by_insert : List TermValue → Table → Table → List TermValue
touched_by_insert objects old new = touched_among (keys_of old.keypos objects) old new
