-- The tags of terms, and the values of numbers and atoms. Tags and layouts are those of the External Term Format
-- chapter of the ERTS User's Guide; which tags and texts are taken is this project's own profile.
use Rattle.std.specs.Prelude.{ℕ, ◌-◌, ◌^◌, ℤ, pos, neg_ℤ, ◌-ℤ◌, Bool, true, cond, not, ◌&&◌, ◌||◌, ◌==◌, nat_lt, nat_le, List, [], ◌∷◌, length, map}
use Rattle.std.specs.List.{list_any}
use Rattle.std.specs.Str.{is_utf8, chars}
use Rattle.dets_term.specs.TermValue.{TermValue, integer, chain, nil}
use Rattle.etf_model.specs.declared.tags.TheConstants.{SMALL_INTEGER, INTEGER, SMALL_BIG, LARGE_BIG, ATOM, SMALL_ATOM, ATOM_UTF8, SMALL_ATOM_UTF8, SMALL_TUPLE}
use Rattle.etf_model.specs.declared.tags.TheConstants.{LARGE_TUPLE, NIL, STRING, LIST, BINARY, BIT_BINARY, MAP}

-- the tags of this project's terms
abbrev pub known_tags : List ℕ
known_tags =
    SMALL_INTEGER ∷ INTEGER ∷ SMALL_BIG ∷ LARGE_BIG ∷ ATOM ∷ SMALL_ATOM ∷ ATOM_UTF8 ∷ SMALL_ATOM_UTF8 ∷ SMALL_TUPLE ∷ LARGE_TUPLE ∷ NIL ∷ STRING ∷ LIST ∷ BINARY
    ∷ BIT_BINARY ∷ MAP ∷ []

-- a tag that begins a term
abbrev pub is_known : ℕ → Bool
is_known tag = list_any (λ t. t == tag) known_tags

-- a tag that begins the tail of a list with elements: the empty list, or a term that is no list
abbrev pub begins_tail : ℕ → Bool
begins_tail tag = is_known tag && not (tag == STRING || tag == LIST)

-- a number of 32 bits in two's complement
abbrev pub signed_32 : ℕ → ℤ
signed_32 n = cond (nat_lt n (2 ^ 31)) (pos n) (pos n -ℤ pos (2 ^ 32))

-- a magnitude with its sign: 0 is not negative, and any other sign is
abbrev pub signed : ℕ → ℕ → ℤ
signed sign m = cond (sign == 0) (pos m) (neg_ℤ (pos m))

-- the greatest magnitude of an integer of this sign
abbrev pub limit : ℕ → ℕ
limit sign = cond (sign == 0) (2 ^ 127 - 1) (2 ^ 127)

-- the characters of an atom that is written in UTF-8, or else in Latin-1
abbrev pub characters : Bool → List ℕ → List ℕ
characters utf8 bytes = cond utf8 (chars bytes) bytes

-- whether bytes are an atom's text: at most 255 characters, in UTF-8 where they are to be
abbrev pub is_name : Bool → List ℕ → Bool
is_name utf8 bytes = cond utf8 (is_utf8 bytes) true && nat_le (length (characters utf8 bytes)) 255

-- the number of used bits in the last of so many bytes
abbrev pub may_use : ℕ → ℕ → Bool
may_use count used = nat_le 1 count && (nat_le 1 used && nat_le used 8)

-- the list of some bytes as integers
abbrev pub integers : List ℕ → TermValue
integers bytes = chain (map (λ x. integer (pos x)) bytes) nil
