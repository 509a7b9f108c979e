-- The printed form of a term, on one line with no white space. It is this project's own form, after the
-- term syntax of the Erlang reference manual.
use Rattle.std.specs.Prelude.{ℕ, ◌+◌, ◌^◌, Bool, true, cond, ◌==◌, ◌&&◌, not, if◌then◌else◌, List, [], ◌∷◌, ◌++◌, length, codes, encode_utf8}
use Rattle.std.specs.List.{list_any, flat_map, join_by, zip}
use Rattle.std.specs.Char.{is_ascii_control}
use Rattle.std.specs.Str.{bytes_eq}
use Rattle.std.specs.Fmt.{digits, decimal, signed_decimal}
use Rattle.dets_term.specs.TermValue.{TermValue, integer, atom, tuple, mapping, nil, cons, bits}
use Rattle.text_model.specs.Token.{is_plain_atom}

-- the reserved words of Erlang's syntax, which are atoms only in quotes
abbrev pub reserved_words : List (List ℕ)
reserved_words =
    codes "after" ∷ codes "and" ∷ codes "andalso" ∷ codes "band" ∷ codes "begin" ∷ codes "bnot" ∷ codes "bor"
    ∷ codes "bsl" ∷ codes "bsr" ∷ codes "bxor" ∷ codes "case" ∷ codes "catch" ∷ codes "cond" ∷ codes "div"
    ∷ codes "else" ∷ codes "end" ∷ codes "fun" ∷ codes "if" ∷ codes "let" ∷ codes "maybe" ∷ codes "not"
    ∷ codes "of" ∷ codes "or" ∷ codes "orelse" ∷ codes "receive" ∷ codes "rem" ∷ codes "try" ∷ codes "when"
    ∷ codes "xor" ∷ []

-- one of these words
unfoldable pub is_reserved : List ℕ → Bool
is_reserved name = list_any (bytes_eq name) reserved_words

-- an atom that is printed without quotes
abbrev pub is_unquoted : List ℕ → Bool
is_unquoted name = is_plain_atom name && not (is_reserved name)

-- A character in quotes. A backslash and a quote have a backslash before them, and the code points 0 to 31
-- and 127 are \x{H}, with the code point in upper-case hexadecimal digits and no leading zero. All else stands
-- as it is, in UTF-8.
abbrev pub quoted_character : ℕ → List ℕ
quoted_character c =
    if c == 92 then codes "\\\\"
    else (if c == 39 then codes "\\'"
    else (if is_ascii_control c then codes "\\x{" ++ digits 16 true c ++ codes "}" else encode_utf8 c))

-- an atom in quotes
abbrev pub quoted_atom : List ℕ → List ℕ
quoted_atom name = codes "'" ++ flat_map quoted_character name ++ codes "'"

-- An atom: as it is where it needs no quotes, else in quotes. One that needs none is ASCII, so its code points
-- are its bytes.
abbrev pub printed_atom : List ℕ → List ℕ
printed_atom name = if is_unquoted name then name else quoted_atom name

-- the number that some bits spell, the highest first
abbrev pub number_of : List Bool → ℕ
number_of [] = 0
number_of (b ∷ bs) = cond b (2 ^ length bs) 0 + number_of bs

-- some bits by eights; the last of these parts has 1 to 8
abbrev pub octets : List Bool → List (List Bool)
octets [] = []
octets (a ∷ b ∷ c ∷ d ∷ e ∷ f ∷ g ∷ h ∷ bs) = (a ∷ b ∷ c ∷ d ∷ e ∷ f ∷ g ∷ h ∷ []) ∷ octets bs
octets bs = bs ∷ []

-- a part of a bit string: its number, and behind a colon how many bits it has, where these are not eight
abbrev pub printed_segment : List Bool → List ℕ
printed_segment bs = if length bs == 8 then decimal (number_of bs) else decimal (number_of bs) ++ codes ":" ++ decimal (length bs)

-- A bit string, after the bit syntax of the Erlang reference manual: its bytes by their numbers, with commas between
-- them, and at the end what is left of a byte.
abbrev pub printed_bits : List Bool → List ℕ
printed_bits bs = codes "<<" ++ join_by printed_segment (codes ",") (octets bs) ++ codes ">>"

-- a key and its value
abbrev pub printed_pair : List ℕ × List ℕ → List ℕ
printed_pair pair = pair.0 ++ codes "=>" ++ pair.1

-- a map by the printed forms of its keys and of its values, in their order
abbrev pub printed_map : List (List ℕ) → List (List ℕ) → List ℕ
printed_map keys values = codes "#{" ++ join_by printed_pair (codes ",") (zip keys values) ++ codes "}"

abbrev mutual
  -- A term. An integer is written in decimal, a list in brackets and a tuple in braces, with commas between
  -- their elements. What an improper list ends in stands behind a bar. The keys of a map ascend, as they do in
  -- its value.
  pub printed : TermValue → List ℕ
  printed (integer z) = signed_decimal z
  printed (atom name) = printed_atom name
  printed (tuple parts) = codes "{" ++ printed_elements (codes "}") parts
  printed (mapping keys values) = printed_map (printed_each keys) (printed_each values)
  printed nil = codes "[]"
  printed (cons first rest) = codes "[" ++ printed first ++ printed_after (codes "]") rest
  printed (bits bs) = printed_bits bs

  -- The elements of a list, up to and with the bracket that closes it. A value that is no list has none.
  pub printed_elements : List ℕ → TermValue → List ℕ
  printed_elements closing (cons first rest) = printed first ++ printed_after closing rest
  printed_elements closing other = closing

  -- what follows an element of a list, up to and with the bracket that closes it
  pub printed_after : List ℕ → TermValue → List ℕ
  printed_after closing (integer z) = codes "|" ++ signed_decimal z ++ closing
  printed_after closing (atom name) = codes "|" ++ printed_atom name ++ closing
  printed_after closing (tuple parts) = codes "|" ++ codes "{" ++ printed_elements (codes "}") parts ++ closing
  printed_after closing (mapping keys values) = codes "|" ++ printed_map (printed_each keys) (printed_each values) ++ closing
  printed_after closing nil = closing
  printed_after closing (cons first rest) = codes "," ++ printed first ++ printed_after closing rest
  printed_after closing (bits bs) = codes "|" ++ printed_bits bs ++ closing

  -- the printed forms of the elements of a list
  pub printed_each : TermValue → List (List ℕ)
  printed_each (cons first rest) = printed first ∷ printed_each rest
  printed_each other = []
