-- The canonical spelling of a term: the shortest of the tags that fit its value. The tags and layouts are those of the
-- External Term Format chapter of the ERTS User's Guide; the choice among them is this project's own.
use Rattle.std.specs.Prelude.{ℕ, zero, suc, ◌+◌, ◌-◌, ◌/◌, ◌%◌, ◌^◌, ℤ, pos, negsuc, Bool, true, false, cond, ◌&&◌, ◌==◌, nat_lt, nat_le, List, [], ◌∷◌, ◌++◌}
use Rattle.std.specs.Prelude.{length, map}
use Rattle.std.specs.List.{concat, flat_map, zip, list_all}
use Rattle.std.specs.Int.{bytes_high_first}
use Rattle.std.specs.Str.{encode_utf8_all}
use Rattle.dets_term.specs.TermValue.{TermValue, integer, atom, tuple, mapping, nil, cons, bits, elements}
use Rattle.etf_model.specs.declared.tags.TheConstants.{VERSION, SMALL_INTEGER, INTEGER, SMALL_BIG, ATOM_UTF8, SMALL_ATOM_UTF8, SMALL_TUPLE, LARGE_TUPLE, NIL, STRING}
use Rattle.etf_model.specs.declared.tags.TheConstants.{LIST, BINARY, BIT_BINARY, MAP}

-- ---- numbers and bytes

-- a tag and a number behind it, which is big-endian in so many bytes
abbrev pub head : ℕ → ℕ → ℕ → List ℕ
head tag size n = tag ∷ bytes_high_first size n

-- the bytes of a number without zeros at its high end, the lowest first, where so many are enough
abbrev pub low_bytes : ℕ → ℕ → List ℕ
low_bytes zero m = []
low_bytes (suc most) m = cond (m == 0) [] (m % 256 ∷ low_bytes most (m / 256))

-- the fewest bytes of a magnitude, of which an integer of 128 bits needs at most 16
unfoldable pub magnitude_bytes : ℕ → List ℕ
magnitude_bytes m = low_bytes 16 m

-- ---- terms without parts

-- a sign and a magnitude, SMALL_BIG: the sign is 0, or 1 where the integer is negative
abbrev pub big_spelling : ℕ → ℕ → List ℕ
big_spelling sign m = SMALL_BIG ∷ length (magnitude_bytes m) ∷ sign ∷ magnitude_bytes m

-- SMALL_INTEGER for a byte, INTEGER for the other numbers of 32 bits in two's complement
abbrev pub integer_spelling : ℤ → List ℕ
integer_spelling (pos n) =
    cond (nat_le n 255) (SMALL_INTEGER ∷ n ∷ []) (cond (nat_lt n (2 ^ 31)) (head INTEGER 4 n) (big_spelling 0 n))
integer_spelling (negsuc n) =
    cond (nat_lt n (2 ^ 31)) (head INTEGER 4 (2 ^ 32 - suc n)) (big_spelling 1 (suc n))

-- SMALL_ATOM_UTF8, and ATOM_UTF8 above 255 bytes
abbrev pub text_head : ℕ → List ℕ
text_head n = cond (nat_le n 255) (head SMALL_ATOM_UTF8 1 n) (head ATOM_UTF8 2 n)

-- an atom in UTF-8
abbrev pub text_spelling : List ℕ → List ℕ
text_spelling text = text_head (length text) ++ text

abbrev pub atom_spelling : List ℕ → List ℕ
atom_spelling name = text_spelling (encode_utf8_all name)

-- the number of size bits that begins with these
abbrev pub high_bits : ℕ → List Bool → ℕ
high_bits zero bs = 0
high_bits (suc size) [] = 0
high_bits (suc size) (b ∷ bs) = cond b (2 ^ size) 0 + high_bits size bs

-- bits as bytes, from the highest bit of each; unused bits are zero
abbrev pub packed : List Bool → List ℕ
packed [] = []
packed (a ∷ b ∷ c ∷ d ∷ e ∷ f ∷ g ∷ h ∷ rest) = high_bits 8 (a ∷ b ∷ c ∷ d ∷ e ∷ f ∷ g ∷ h ∷ []) ∷ packed rest
packed fewer = high_bits 8 fewer ∷ []

-- BINARY for whole bytes; else BIT_BINARY, whose number of used bits stands behind the length
abbrev pub bits_spelling : List Bool → List ℕ
bits_spelling bs =
    cond (length bs % 8 == 0) (head BINARY 4 (length (packed bs)) ++ packed bs)
    (head BIT_BINARY 4 (length (packed bs)) ++ (length bs % 8 ∷ packed bs))

-- ---- terms with parts, of the spellings of these

-- SMALL_TUPLE, and LARGE_TUPLE above 255 elements
abbrev pub tuple_head : ℕ → List ℕ
tuple_head n = cond (nat_le n 255) (head SMALL_TUPLE 1 n) (head LARGE_TUPLE 4 n)

abbrev pub tuple_spelling : List (List ℕ) → List ℕ
tuple_spelling parts = tuple_head (length parts) ++ concat parts

-- MAP: each key before its value, in their order
abbrev pub map_spelling : List (List ℕ) → List (List ℕ) → List ℕ
map_spelling keys values = head MAP 4 (length keys) ++ flat_map (λ p. p.0 ++ p.1) (zip keys values)

-- a list that ends in the empty one
abbrev pub is_proper : TermValue → Bool
is_proper nil = true
is_proper (cons first rest) = is_proper rest
is_proper other = false

-- an integer from 0 to 255
abbrev pub is_byte : TermValue → Bool
is_byte (integer (pos n)) = nat_le n 255
is_byte other = false

-- its value
abbrev pub byte_value : TermValue → ℕ
byte_value (integer (pos n)) = n
byte_value other = 0

-- at most 65,535 integers, all from 0 to 255
abbrev pub are_bytes : List TermValue → Bool
are_bytes ts = nat_le (length ts) 65535 && list_all is_byte ts

-- STRING for a proper list of bytes; else LIST, with what it ends in behind its elements
abbrev pub list_spelling : TermValue → List (List ℕ) → List ℕ → List ℕ
list_spelling ts parts end =
    cond (is_proper ts && are_bytes (elements ts)) (head STRING 2 (length (elements ts)) ++ map byte_value (elements ts))
    (head LIST 4 (length parts) ++ (concat parts ++ end))

abbrev mutual
  -- the canonical spelling of a term, without the byte 131 in front
  pub canonical : TermValue → List ℕ
  canonical (integer z) = integer_spelling z
  canonical (atom name) = atom_spelling name
  canonical (tuple parts) = tuple_spelling (canonical_each parts)
  canonical (mapping keys values) = map_spelling (canonical_each keys) (canonical_each values)
  canonical nil = NIL ∷ []
  canonical (cons first rest) = list_spelling (cons first rest) (canonical first ∷ canonical_each rest) (canonical_end rest)
  canonical (bits bs) = bits_spelling bs

  -- the spelling of each element of a list
  pub canonical_each : TermValue → List (List ℕ)
  canonical_each (cons first rest) = canonical first ∷ canonical_each rest
  canonical_each other = []

  -- the spelling of what a list ends in: NIL, or the tail of an improper one
  pub canonical_end : TermValue → List ℕ
  canonical_end (integer z) = integer_spelling z
  canonical_end (atom name) = atom_spelling name
  canonical_end (tuple parts) = tuple_spelling (canonical_each parts)
  canonical_end (mapping keys values) = map_spelling (canonical_each keys) (canonical_each values)
  canonical_end nil = NIL ∷ []
  canonical_end (cons first rest) = canonical_end rest
  canonical_end (bits bs) = bits_spelling bs

-- the canonical spelling, with the version in front
abbrev pub spelled : TermValue → List ℕ
spelled t = VERSION ∷ canonical t
