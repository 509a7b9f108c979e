-- What the machine knows of the bytes that it read: tokens that they spell, and what is begun of the next one.
use Rattle.std.proofs.Common.{◌≡◌, ℕ, ◌+◌, ◌≤◌, ◌<◌, ℤ, pos, neg_ℤ, Bool, true, cond, ◌⊎◌, List, [], ◌∷◌, ◌++◌, length, Option, Some, None, Ok, encode_utf8_all}
use Rattle.std.specs.Char.{IsScalar, is_ascii_digit, is_ascii_hexdigit}
use Rattle.std.specs.Str.{all_scalars}
use Rattle.dets_term.specs.TermValue.{TermValue}
use Rattle.text_model.specs.declared.fault.TextWhy.{TextWhy}
use Rattle.text_model.specs.declared.fault.TextWhy.TheVariants.{BadToken}
use Rattle.text_model.specs.Token.{Token, Sort, mark, a_mark, a_number, a_plain, a_quoted, a_string, fits, is_plain_atom}
use Rattle.text_model.specs.Characters.{each, is_octal, number_in, AreCharacters}
use Rattle.text_model.specs.Spelling.{AreOfLine, IsBlank}
use Rattle.text_model.specs.Grammar.{strict}
use Rattle.text_model.specs.Nest.{Nest, fresh, stopped, take, refusal_of, may_hold}
use Rattle.text_model.specs.Located.{SpellsTo, take_all}
use Rattle.text_model.specs.Reader.{Partial, nothing, cut, backslash, octal, hexadecimal, half, braced, Quotes, of_atom, of_string, Lexeme, between}
use Rattle.text_model.specs.Reader.{in_comment, first_of, in_minus, in_number, in_name, in_quotes, why_of, double, sequence, part, may_have, quote_of}
use Rattle.text_model.specs.Reader.{may_escape}

-- not behind a full stop
abbrev pub IsGoing : Nest → Type 0
IsGoing n = (t : TermValue) → n.place ≡ stopped t → ⊥

-- Bytes that were read, up to the next token: they spell tokens that lead to this nest, and blanks; then, from an offset on,
-- they are the front of the next token. All this holds whatever follows. Behind a full stop nothing was read.
pub record Before (p : List ℕ) (n : Nest) (start : ℕ) (front : List ℕ) : Type 0 where
  pub tokens : List (ℕ × Token)
  pub taken : take_all strict fresh tokens ≡ Ok n
  pub blanks : List ℕ
  pub blank : IsBlank blanks
  pub spelled : (more : List ℕ) → SpellsTo (length p + length more) tokens (p ++ more) (blanks ++ (front ++ more))
  pub offset : length p ≡ start + length front
  pub stop : (t : TermValue) → n.place ≡ stopped t → blanks ++ front ≡ []

-- why no token of a sort may stand at an offset; a mark is tried whole
abbrev pub why_not : Nest → ℕ → Sort → Option TextWhy
why_not n at (a_mark m) = why_of (take strict n at (mark m))
why_not n at a_number = refusal_of strict n a_number
why_not n at a_plain = refusal_of strict n a_plain
why_not n at a_quoted = refusal_of strict n a_quoted
why_not n at a_string = refusal_of strict n a_string

abbrev pub IsNotStray : Option TextWhy → Type 0
IsNotStray why = why ≡ Some BadToken → ⊥

-- ---- lexemes

-- the first bytes of a character, or none
abbrev pub IsCut : List ℕ → Type 0
IsCut bytes = (bytes ≡ []) ⊎ (sequence bytes ≡ part)

-- a comment from an offset on
pub record IsInComment (p : List ℕ) (n : Nest) (bytes : List ℕ) : Type 0 where
  pub start : ℕ
  pub characters : List ℕ
  pub line : AreOfLine characters
  pub before : Before p n start (37 ∷ (encode_utf8_all characters ++ bytes))

abbrev pub signed : Bool → ℕ → ℤ
signed minus n = cond minus (neg_ℤ (pos n)) (pos n)

abbrev pub sign : Bool → List ℕ
sign minus = cond minus (45 ∷ []) []

-- a number by its digits so far
pub record IsInNumber (p : List ℕ) (n : Nest) (start : ℕ) (minus : Bool) (z : ℤ) : Type 0 where
  pub digits : List ℕ
  pub some : 0 < length digits
  pub decimal : each is_ascii_digit digits ≡ true
  pub value : z ≡ signed minus (number_in 10 digits)
  pub before : Before p n start (sign minus ++ digits)
  pub in_place : refusal_of strict n a_number ≡ None

abbrev pub sort_in : Quotes → Sort
sort_in of_atom = a_quoted
sort_in of_string = a_string

-- so many characters may stand there
abbrev pub Holds : Nest → Quotes → List ℕ → Type 0
Holds n of_atom cs = length cs ≤ 255
Holds n of_string cs = (cs ≡ []) ⊎ (may_hold strict n ≡ true)

-- whole characters in quotes, and bytes of the next one
pub record IsInQuotes (p : List ℕ) (n : Nest) (start : ℕ) (q : Quotes) (cs pending : List ℕ) : Type 0 where
  pub inside : List ℕ
  pub before : Before p n start (quote_of q ∷ inside)
  pub characters : (more : List ℕ) → AreCharacters (quote_of q) cs (inside ++ more) (pending ++ more)
  pub scalars : all_scalars cs ≡ true
  pub hold : Holds n q cs
  pub in_place : refusal_of strict n (sort_in q) ≡ None

-- digits of an escape by their value and their number
pub record AreDigits (base : ℕ) (test : ℕ → Bool) (v count : ℕ) (digits : List ℕ) : Type 0 where
  pub pass : each test digits ≡ true
  pub counted : length digits ≡ count
  pub value : v ≡ number_in base digits

-- the bytes of the next character
abbrev pub IsPending : Nest → Quotes → List ℕ → Partial → List ℕ → Type 0
IsPending n q cs nothing pending = pending ≡ []
IsPending n q cs (cut bytes) pending = (pending ≡ bytes) × (sequence bytes ≡ part)
IsPending n q cs backslash pending = (pending ≡ 92 ∷ []) × (may_escape q cs ≡ true)
IsPending n q cs (octal v count) pending =
    (ds : List ℕ) × (pending ≡ 92 ∷ ds) × AreDigits 8 is_octal v count ds × (1 ≤ count) × (count ≤ 2) × (may_have n q cs ≡ None)
IsPending n q cs hexadecimal pending = pending ≡ 92 ∷ 120 ∷ []
IsPending n q cs (half v) pending = (ds : List ℕ) × (pending ≡ 92 ∷ 120 ∷ ds) × AreDigits 16 is_ascii_hexdigit v 1 ds
IsPending n q cs (braced v count) pending =
    (ds : List ℕ) × (pending ≡ 92 ∷ 120 ∷ 123 ∷ ds) × AreDigits 16 is_ascii_hexdigit v count ds × (count ≤ 6) × (count ≡ 6 → IsScalar v)

-- what is begun, by cases on the lexeme
abbrev pub Comes : List ℕ → Nest → Lexeme → Type 0
Comes p n between = Before p n (length p) []
Comes p n (in_comment bytes) = IsCut bytes × IsInComment p n bytes
Comes p n (first_of start m) = (x : ℕ) × (double x ≡ Some m) × IsNotStray (why_not n start (a_mark m)) × Before p n start (x ∷ [])
Comes p n (in_minus start) = IsNotStray (refusal_of strict n a_number) × Before p n start (45 ∷ [])
Comes p n (in_number start minus z) = (fits z ≡ true) × IsInNumber p n start minus z
Comes p n (in_name start cs) = (is_plain_atom cs ≡ true) × (length cs ≤ 255) × (refusal_of strict n a_plain ≡ None) × Before p n start cs
Comes p n (in_quotes start q cs partial) = (pending : List ℕ) × IsInQuotes p n start q cs pending × IsPending n q cs partial pending
