-- What keeps a token that is begun, and a state of the reader, within the limits of terms.
use Rattle.std.specs.Prelude.{ℕ, ◌+◌, ◌*◌, ◌<◌, ◌≤◌, ◌^◌, length}
use Rattle.text_model.specs.Reader.{Partial, cut, octal, half, of_atom, of_string, Lexeme, in_comment, in_number, in_name, in_quotes, State}
use Rattle.text_nest.specs.Fits.{AreShallow, AreApart, load, IsShallow, IsNew, place_load}

-- octal digits are a character already
abbrev pub pending : Partial → ℕ
pending (octal v count) = 1
pending other = 0

-- what it may add
abbrev pub lexeme_load : Lexeme → ℕ
lexeme_load (in_number start minus z) = 8
lexeme_load (in_quotes start q cs partial) = 8 * (length cs + pending partial)
lexeme_load other = 0

-- what is read of a character in quotes
abbrev pub PartialFits : Partial → Type 0
PartialFits (cut bytes) = length bytes ≤ 3
PartialFits (octal v count) = (1 ≤ count) × (count ≤ 2) × (v < 8 ^ count)
PartialFits (half v) = v < 16
PartialFits other = Unit {0}

abbrev pub LexemeFits : Lexeme → Type 0
LexemeFits (in_comment bytes) = length bytes ≤ 3
LexemeFits (in_name start cs) = length cs ≤ 255
LexemeFits (in_quotes start of_atom cs partial) = (length cs + pending partial ≤ 255) × PartialFits partial
LexemeFits (in_quotes start of_string cs partial) = PartialFits partial
LexemeFits other = Unit {0}

pub record IsFitState (count : ℕ) (s : State) : Type 0 where
  pub shallow : AreShallow s.nest.begun
  pub apart : AreApart s.nest.begun
  pub place : IsShallow s.nest.begun s.nest.place
  pub key : IsNew s.nest.begun s.nest.place
  pub light : load s.nest.begun + place_load s.nest.place + lexeme_load s.lexeme ≤ 8 * count
  pub lexeme : LexemeFits s.lexeme
