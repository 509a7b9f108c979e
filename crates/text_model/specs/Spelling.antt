-- How tokens are spelled, and what stands between them. This project's own, after the Erlang reference manual.
use Rattle.std.specs.Prelude.{◌≡◌, ℕ, ◌<◌, ℤ, pos, neg_ℤ, Bool, true, cond, not, ◌&&◌, ◌||◌, ◌==◌, nat_le, List, [], ◌∷◌, ◌++◌, length, encode_utf8_all}
use Rattle.std.specs.List.{flat_map, AllByRecursion}
use Rattle.std.specs.Char.{is_ascii_digit}
use Rattle.std.specs.Str.{all_scalars}
use Rattle.text_model.specs.Token.{Token, mark, number, plain, quoted, string, is_name_character, IsToken, mark_bytes}
use Rattle.text_model.specs.Characters.{each, EndsBefore, number_in, AreCharacters}

-- ---- what stands between two tokens

-- white space: the bytes 9 to 13 and 32
abbrev pub is_white : ℕ → Bool
is_white x = (nat_le 9 x && nat_le x 13) || x == 32

-- a byte of white space; or a comment by its characters, from `%` to the line end
pub data Gap : Type 0 where
  white : ℕ → Gap
  comment : List ℕ → Gap

abbrev pub gap_bytes : Gap → List ℕ
gap_bytes (white x) = x ∷ []
gap_bytes (comment cs) = 37 ∷ (encode_utf8_all cs ++ 10 ∷ [])

-- characters, and no line end among them
abbrev pub AreOfLine : List ℕ → Type 0
AreOfLine cs = (all_scalars cs ≡ true) × (each (λ c. not (c == 10)) cs ≡ true)

abbrev pub IsGap : Gap → Type 0
IsGap (white x) = is_white x ≡ true
IsGap (comment cs) = AreOfLine cs

-- white space and comments, which may stand between any two tokens
pub record IsBlank (bytes : List ℕ) : Type 0 where
  pub gaps : List Gap
  pub each_one : AllByRecursion IsGap gaps
  pub whole : bytes ≡ flat_map gap_bytes gaps

-- ---- tokens

-- decimal digits, leading zeros among them, behind a minus sign or not; no digit follows
pub record IsNumber (z : ℤ) (bytes rest : List ℕ) : Type 0 where
  pub minus : Bool
  pub digits : List ℕ
  pub some : 0 < length digits
  pub decimal : each is_ascii_digit digits ≡ true
  pub value : z ≡ cond minus (neg_ℤ (pos (number_in 10 digits))) (pos (number_in 10 digits))
  pub whole : bytes ≡ cond minus (45 ∷ []) [] ++ (digits ++ rest)
  pub longest : EndsBefore is_ascii_digit rest

-- characters between two quotes
abbrev pub IsQuoted : (quote : ℕ) → List ℕ → List ℕ → List ℕ → Type 0
IsQuoted quote cs bytes rest = (inside : List ℕ) × (bytes ≡ quote ∷ inside) × AreCharacters quote cs inside (quote ∷ rest)

-- the bytes of a token stand in front of the rest, and the token is as long as it can be
abbrev pub IsSpelled : Token → List ℕ → List ℕ → Type 0
IsSpelled (mark m) bytes rest = bytes ≡ mark_bytes m ++ rest
IsSpelled (number z) bytes rest = IsNumber z bytes rest
IsSpelled (plain cs) bytes rest = (bytes ≡ cs ++ rest) × EndsBefore is_name_character rest
IsSpelled (quoted cs) bytes rest = IsQuoted 39 cs bytes rest
IsSpelled (string cs) bytes rest = IsQuoted 34 cs bytes rest

-- a token within its limits stands in front of the rest
abbrev pub Stands : Token → List ℕ → List ℕ → Type 0
Stands token bytes rest = IsToken token × IsSpelled token bytes rest

-- white space and comments stand in front of the rest
abbrev pub Skips : List ℕ → List ℕ → Type 0
Skips bytes rest = (blanks : List ℕ) × IsBlank blanks × (bytes ≡ blanks ++ rest)

-- some tokens stand in front of the rest, with white space and comments before each of them
abbrev pub Spells : List Token → List ℕ → List ℕ → Type 0
Spells [] bytes rest = bytes ≡ rest
Spells (token ∷ tokens) bytes rest =
    (at : List ℕ) × (behind : List ℕ) × Skips bytes at × Stands token at behind × Spells tokens behind rest
