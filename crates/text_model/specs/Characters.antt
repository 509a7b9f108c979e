-- Characters in quotes. This project's own, after the escape sequences of the Erlang reference manual.
use Rattle.std.specs.Prelude.{◌≡◌, ◌≢◌, ℕ, ◌+◌, ◌*◌, ◌-◌, ◌≤◌, Bool, true, false, cond, ◌==◌, nat_le, nat_lt, ◌&&◌, List, [], ◌∷◌, ◌++◌, length, ◌⊎◌}
use Rattle.std.specs.Prelude.{Option, Some, None, encode_utf8}
use Rattle.std.specs.Char.{IsScalar, is_ascii_digit, is_ascii_lowercase, is_ascii_hexdigit}

-- each of some bytes passes a test
abbrev pub each : (ℕ → Bool) → List ℕ → Bool
each test [] = true
each test (x ∷ xs) = test x && each test xs

-- the first of some bytes, where there is one, does not pass a test
abbrev pub EndsBefore : (ℕ → Bool) → List ℕ → Type 0
EndsBefore test [] = Unit {0}
EndsBefore test (x ∷ xs) = test x ≡ false

abbrev pub is_octal : ℕ → Bool
is_octal x = nat_le 48 x && nat_lt x 56

-- the value of a digit, a letter among them in either case
abbrev pub digit_value : ℕ → ℕ
digit_value x = cond (is_ascii_digit x) (x - 48) (cond (is_ascii_lowercase x) (x - 87) (x - 55))

-- a number behind which these digits come, in a base
abbrev pub digits_behind : ℕ → ℕ → List ℕ → ℕ
digits_behind base n [] = n
digits_behind base n (d ∷ ds) = digits_behind base (base * n + digit_value d) ds

-- the number that some digits spell
abbrev pub number_in : ℕ → List ℕ → ℕ
number_in base ds = digits_behind base 0 ds

-- the code point of an escape of one letter or sign
abbrev pub escape_of : ℕ → Option ℕ
escape_of x =
    cond (x == 92) (Some 92) (cond (x == 39) (Some 39) (cond (x == 34) (Some 34) (cond (x == 110) (Some 10)
    (cond (x == 116) (Some 9) (cond (x == 114) (Some 13) (cond (x == 98) (Some 8) (cond (x == 100) (Some 127)
    (cond (x == 101) (Some 27) (cond (x == 102) (Some 12) (cond (x == 115) (Some 32) (cond (x == 118) (Some 11) None)))))))))))

-- one to three octal digits; where there are fewer than three, no more follow
pub record IsOctal (c : ℕ) (bytes rest : List ℕ) : Type 0 where
  pub digits : List ℕ
  pub some : 1 ≤ length digits
  pub few : length digits ≤ 3
  pub octal : each is_octal digits ≡ true
  pub value : c ≡ number_in 8 digits
  pub whole : bytes ≡ digits ++ rest
  pub longest : (length digits ≡ 3) ⊎ EndsBefore is_octal rest

-- `x` and two hexadecimal digits
pub record IsPair (c : ℕ) (bytes rest : List ℕ) : Type 0 where
  pub high : ℕ
  pub low : ℕ
  pub hexadecimal : each is_ascii_hexdigit (high ∷ low ∷ []) ≡ true
  pub value : c ≡ number_in 16 (high ∷ low ∷ [])
  pub whole : bytes ≡ 120 ∷ high ∷ low ∷ rest

-- `x{`, one to six hexadecimal digits of a Unicode scalar value, and `}`
pub record IsBraced (c : ℕ) (bytes rest : List ℕ) : Type 0 where
  pub digits : List ℕ
  pub some : 1 ≤ length digits
  pub few : length digits ≤ 6
  pub hexadecimal : each is_ascii_hexdigit digits ≡ true
  pub value : c ≡ number_in 16 digits
  pub scalar : IsScalar c
  pub whole : bytes ≡ 120 ∷ 123 ∷ (digits ++ 125 ∷ rest)

-- one letter or sign
abbrev pub IsLetter : ℕ → List ℕ → List ℕ → Type 0
IsLetter c bytes rest = (x : ℕ) × (bytes ≡ x ∷ rest) × (escape_of x ≡ Some c)

-- what follows a backslash: an escape of this code point, in front of the rest
abbrev pub Escapes : ℕ → List ℕ → List ℕ → Type 0
Escapes c bytes rest = IsLetter c bytes rest ⊎ (IsOctal c bytes rest ⊎ (IsPair c bytes rest ⊎ IsBraced c bytes rest))

-- a character that stands for itself, in UTF-8: any but a backslash and the quote that closes
pub record IsItself (quote c : ℕ) (bytes rest : List ℕ) : Type 0 where
  pub scalar : IsScalar c
  pub no_quote : c ≢ quote
  pub no_escape : c ≢ 92
  pub whole : bytes ≡ encode_utf8 c ++ rest

-- a character between quotes, in front of the rest
abbrev pub IsCharacter : (quote : ℕ) → ℕ → List ℕ → List ℕ → Type 0
IsCharacter quote c bytes rest = IsItself quote c bytes rest ⊎ ((escape : List ℕ) × (bytes ≡ 92 ∷ escape) × Escapes c escape rest)

-- some characters between quotes, in front of the rest
abbrev pub AreCharacters : (quote : ℕ) → List ℕ → List ℕ → List ℕ → Type 0
AreCharacters quote [] bytes rest = bytes ≡ rest
AreCharacters quote (c ∷ cs) bytes rest = (behind : List ℕ) × IsCharacter quote c bytes behind × AreCharacters quote cs behind rest
