-- The tokens of printed terms, and the marks by their bytes. This project's own, after the term syntax of the Erlang
-- reference manual.
use Rattle.std.specs.Prelude.{◌≡◌, ℕ, ◌≤◌, ◌-◌, ◌^◌, ℤ, pos, negsuc, int_le, Bool, true, ◌&&◌, ◌||◌, ◌==◌, List, [], ◌∷◌, length, codes}
use Rattle.std.specs.List.{list_all}
use Rattle.std.specs.Char.{is_ascii_lowercase, is_ascii_alphanumeric}
use Rattle.std.specs.Str.{all_scalars}
use Rattle.text_model.specs.declared.mark.Mark.{Mark}
use Rattle.text_model.specs.declared.mark.Mark.TheVariants.{OpenTuple, OpenMap, CloseBrace, OpenList, CloseList, OpenBits, CloseBits, Bar, Comma}
use Rattle.text_model.specs.declared.mark.Mark.TheVariants.{Arrow, Colon, FullStop}

pub data Token : Type 0 where
  -- a punctuation mark
  mark : Mark → Token
  number : ℤ → Token
  -- an atom without quotes, by its characters
  plain : List ℕ → Token
  -- an atom in quotes
  quoted : List ℕ → Token
  -- a string, by its code points
  string : List ℕ → Token

-- what a token is, without its value
pub data Sort : Type 0 where
  a_mark : Mark → Sort
  a_number : Sort
  a_plain : Sort
  a_quoted : Sort
  a_string : Sort

abbrev pub sort_of : Token → Sort
sort_of (mark m) = a_mark m
sort_of (number z) = a_number
sort_of (plain cs) = a_plain
sort_of (quoted cs) = a_quoted
sort_of (string cs) = a_string

-- a letter from a to z or A to Z, a digit, `_` or `@`
abbrev pub is_name_character : ℕ → Bool
is_name_character c = is_ascii_alphanumeric c || c == 95 || c == 64

-- a plain atom: a letter from a to z, then letters, digits, `_` and `@`
abbrev pub is_plain_atom : List ℕ → Bool
is_plain_atom [] = Bool.false
is_plain_atom (c ∷ cs) = is_ascii_lowercase c && list_all is_name_character cs

-- whether 128 bits hold an integer
abbrev pub fits : ℤ → Bool
fits z = int_le (negsuc (2 ^ 127 - 1)) z && int_le z (pos (2 ^ 127 - 1))

-- a token whose value is within the limits on integers and atoms, and whose characters are Unicode scalar values
abbrev pub IsToken : Token → Type 0
IsToken (mark m) = Unit {0}
IsToken (number z) = fits z ≡ true
IsToken (plain cs) = (is_plain_atom cs ≡ true) × (length cs ≤ 255)
IsToken (quoted cs) = (all_scalars cs ≡ true) × (length cs ≤ 255)
IsToken (string cs) = all_scalars cs ≡ true

-- the bytes of a mark
abbrev pub mark_bytes : Mark → List ℕ
mark_bytes OpenTuple = codes "{"
mark_bytes OpenMap = codes "#{"
mark_bytes CloseBrace = codes "}"
mark_bytes OpenList = codes "["
mark_bytes CloseList = codes "]"
mark_bytes OpenBits = codes "<<"
mark_bytes CloseBits = codes ">>"
mark_bytes Bar = codes "|"
mark_bytes Comma = codes ","
mark_bytes Arrow = codes "=>"
mark_bytes Colon = codes ":"
mark_bytes FullStop = codes "."
