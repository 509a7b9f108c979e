-- Terms in few words, as worked rows write them. This project's own.
use Prim.Native.String.{String}
use Rattle.std.specs.Prelude.{ℕ, zero, suc, pos, List, [], ◌∷◌, codes}
use Rattle.term_model.specs.TermValue.{TermValue, integer, atom, tuple, nil, chain, bits}
use Rattle.term_model.specs.BitString.{bits_of}

-- an atom by its name
abbrev pub word : String → TermValue
word name = atom (codes name)

-- an integer that is not negative
abbrev pub number : ℕ → TermValue
number n = integer (pos n)

abbrev pub tuple_of : List TermValue → TermValue
tuple_of parts = tuple (chain parts nil)

abbrev pub list_of : List TermValue → TermValue
list_of parts = chain parts nil

-- {A,B}
abbrev pub pair : TermValue → TermValue → TermValue
pair a b = tuple_of (a ∷ b ∷ [])

-- a bit string of these bytes, of the last of them only so many bits
abbrev pub bit_string : List ℕ → ℕ → TermValue
bit_string bs used = bits (bits_of bs used)

-- a bit string of whole bytes
abbrev pub bytes : List ℕ → TermValue
bytes bs = bit_string bs 8

-- the integer 0 inside so many lists of one element
abbrev pub boxed : ℕ → TermValue
boxed zero = number 0
boxed (suc lists) = list_of (boxed lists ∷ [])
