-- The faults of the machine that reads bytes, by their rules, with what it knows of the bytes that it read.
use Rattle.std.proofs.Common.{◌≡◌, ℕ, ◌+◌, ◌≤◌, ◌<◌, ℤ, ◌⊎◌, true, false, List, [], ◌∷◌, ◌++◌, length, Some, None, Ok, Err, encode_utf8}
use Rattle.std.specs.Char.{IsScalar}
use Rattle.text_model.specs.declared.fault.TextWhy.{TextWhy}
use Rattle.text_model.specs.declared.fault.TextWhy.TheVariants.{BadToken, BadUtf8, Depth, IntegerRange, RepeatedKey}
use Rattle.text_model.specs.declared.mark.Mark.TheVariants.{Colon}
use Rattle.text_model.specs.Token.{Token, Sort, mark, sort_of, a_mark, a_number, a_plain, fits, is_plain_atom}
use Rattle.text_model.specs.Characters.{Escapes, IsCharacter}
use Rattle.text_model.specs.Spelling.{IsNumber, Stands}
use Rattle.text_model.specs.Grammar.{strict}
use Rattle.text_model.specs.Nest.{Nest, value, take, refusal_of}
use Rattle.text_model.specs.Sentence.{ends}
use Rattle.text_model.specs.Faults.{BeginsWith, Shows}
use Rattle.text_model.specs.Reader.{Led, Quotes, of_atom, may_have, quote_of}
use Rattle.text_model.proofs.Comes.{Before, why_not, IsInComment, IsInQuotes, Comes}

-- no sort of token that may begin so can stand there
pub record StrayRow (p : List ℕ) (o : ℕ) (why : TextWhy) : Type 0 where
  pub nest : Nest
  pub front : List ℕ
  pub before : Before p nest o front
  -- neither white space, nor a comment, nor the colon of a segment's value, which is judged by this value
  pub begins : ends false front ≡ Some false
  pub apart : (more : List ℕ) (start : ℕ) (v : ℤ) → Shows (a_mark Colon) (front ++ more) → nest.place ≡ value start v → ⊥
  pub none : (more : List ℕ) (sort : Sort) → Shows sort (front ++ more) → why_not nest o sort ≡ Some BadToken
  pub reason : why ≡ BadToken

-- a token that begins would be a level too deep
pub record DeepRow (p : List ℕ) (o : ℕ) (why : TextWhy) : Type 0 where
  pub nest : Nest
  pub front : List ℕ
  pub before : Before p nest o front
  pub sort : Sort
  pub shows : (more : List ℕ) → Shows sort (front ++ more)
  pub refused : why_not nest o sort ≡ Some Depth
  pub reason : why ≡ Depth

-- an integer that is out of range
pub record WideRow (p : List ℕ) (o : ℕ) (why : TextWhy) : Type 0 where
  pub nest : Nest
  pub front : List ℕ
  pub before : Before p nest o front
  pub in_place : refusal_of strict nest a_number ≡ None
  pub value : ℤ
  pub number : IsNumber value front []
  pub wide : fits value ≡ false
  pub reason : why ≡ IntegerRange

-- an atom without quotes that is too long
pub record LongPlainRow (p : List ℕ) (o : ℕ) (why : TextWhy) : Type 0 where
  pub nest : Nest
  pub characters : List ℕ
  pub before : Before p nest o characters
  pub in_place : refusal_of strict nest a_plain ≡ None
  pub name : is_plain_atom characters ≡ true
  pub long : 255 < length characters
  pub reason : why ≡ BadToken

-- one more character in quotes, whole or begun so that it is one whatever follows, where none may be
pub record FullRow (p : List ℕ) (o : ℕ) (why : TextWhy) : Type 0 where
  pub nest : Nest
  pub quotes : Quotes
  pub characters : List ℕ
  pub pending : List ℕ
  pub inside : IsInQuotes p nest o quotes characters pending
  pub one_more : (more : List ℕ) → (c : ℕ) × (behind : List ℕ) × IsCharacter (quote_of quotes) c (pending ++ more) behind
  pub refused : may_have nest quotes characters ≡ Some why

-- a backslash behind 255 characters of an atom in quotes
pub record FullEscapeRow (p : List ℕ) (o : ℕ) (why : TextWhy) : Type 0 where
  pub nest : Nest
  pub characters : List ℕ
  pub inside : IsInQuotes p nest o of_atom characters (92 ∷ [])
  pub long : 255 ≤ length characters
  pub reason : why ≡ BadToken

-- a backslash that begins no escape
pub record EscapeRow (p : List ℕ) (o : ℕ) (why : TextWhy) : Type 0 where
  pub nest : Nest
  pub quotes : Quotes
  pub characters : List ℕ
  pub escape : List ℕ
  pub inside : IsInQuotes p nest o quotes characters (92 ∷ escape)
  pub bad : (more : List ℕ) (c : ℕ) (behind : List ℕ) → Escapes c (escape ++ more) behind → ⊥
  pub reason : why ≡ BadToken

-- no character begins with these bytes, whatever follows
abbrev pub IsWrong : List ℕ → Type 0
IsWrong bytes = (more : List ℕ) (c : ℕ) → IsScalar c → BeginsWith (bytes ++ more) (encode_utf8 c) → ⊥

-- bytes in quotes that are not UTF-8
pub record SequenceRow (p : List ℕ) (o : ℕ) (why : TextWhy) : Type 0 where
  pub nest : Nest
  pub start : ℕ
  pub quotes : Quotes
  pub characters : List ℕ
  pub bytes : List ℕ
  pub inside : IsInQuotes p nest start quotes characters bytes
  pub some : 0 < length bytes
  pub there : length p ≡ o + length bytes
  pub bad : IsWrong bytes
  pub reason : why ≡ BadUtf8

-- bytes in a comment that are not UTF-8
pub record CommentRow (p : List ℕ) (o : ℕ) (why : TextWhy) : Type 0 where
  pub nest : Nest
  pub bytes : List ℕ
  pub comment : IsInComment p nest bytes
  pub some : 0 < length bytes
  pub there : length p ≡ o + length bytes
  pub bad : IsWrong bytes
  pub reason : why ≡ BadUtf8

-- Why a whole token is judged by its value: tokens of its sort may stand there; a mark closes a term that is a key, or it is the
-- colon of a segment's value.
abbrev pub IsInPlace : Nest → TextWhy → Token → Type 0
IsInPlace n why (mark m) = (why ≡ RepeatedKey) ⊎ ((m ≡ Colon) × (at : ℕ) × (v : ℤ) × (n.place ≡ value at v))
IsInPlace n why token = refusal_of strict n (sort_of token) ≡ None

-- a whole token that its place refuses, and the bytes behind it
pub record TokenRow (p : List ℕ) (o : ℕ) (why : TextWhy) : Type 0 where
  pub nest : Nest
  pub start : ℕ
  pub front : List ℕ
  pub behind : List ℕ
  pub before : Before p nest start front
  pub token : Token
  pub stands : (more : List ℕ) → Stands token (front ++ more) (behind ++ more)
  pub in_place : IsInPlace nest why token
  pub refused : take strict nest start token ≡ Err (o, why)

-- A fault that is told behind these bytes, whatever follows.
pub data Row (p : List ℕ) (o : ℕ) (why : TextWhy) : Type 0 where
  stray_row : StrayRow p o why → Row p o why
  deep_row : DeepRow p o why → Row p o why
  wide_row : WideRow p o why → Row p o why
  long_plain_row : LongPlainRow p o why → Row p o why
  full_row : FullRow p o why → Row p o why
  full_escape_row : FullEscapeRow p o why → Row p o why
  escape_row : EscapeRow p o why → Row p o why
  sequence_row : SequenceRow p o why → Row p o why
  comment_row : CommentRow p o why → Row p o why
  token_row : TokenRow p o why → Row p o why

-- what a byte led to holds of the bytes with this one
abbrev pub Leads : List ℕ → Led → Type 0
Leads p (Ok s) = Comes p s.nest s.lexeme
Leads p (Err fault) = Row p fault.0 fault.1
