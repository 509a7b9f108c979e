-- The fault of an input that is finished, over its tokens: each rule by which a text is refused, and the offset that is told.
-- This project's own.
use Rattle.std.specs.Prelude.{◌≡◌, ℕ, ◌+◌, ◌≤◌, ◌<◌, true, false, List, [], ◌∷◌, ◌++◌, length, take, ◌⊎◌, Some, encode_utf8, encode_utf8_all, ℤ}
use Rattle.std.specs.Char.{IsScalar, is_ascii_digit, is_ascii_lowercase}
use Rattle.dets_term.specs.TermValue.{TermValue}
use Rattle.text_model.specs.declared.mark.Mark.TheVariants.{Colon, FullStop}
use Rattle.text_model.specs.declared.fault.TextWhy.{TextWhy}
use Rattle.text_model.specs.declared.fault.TextWhy.TheVariants.{BadToken, BadUtf8, Depth, IntegerRange, RepeatedKey, Unfinished, TooLong}
use Rattle.text_model.specs.Token.{Token, Sort, mark, number, string, a_mark, a_number, a_plain, a_quoted, a_string, fits, is_plain_atom, mark_bytes}
use Rattle.text_model.specs.Characters.{Escapes, IsItself, AreCharacters}
use Rattle.text_model.specs.Spelling.{IsNumber, AreOfLine, IsBlank, Stands, Skips, Spells}
use Rattle.text_model.specs.Grammar.{Rules, strict, formal, IsText}
use Rattle.text_model.specs.Fronts.{MayBegin, MayStand, Repeats}
use Rattle.text_model.specs.Sentence.{HasNone, IsSentence, BeginsAt, ends, longest}

-- some bytes begin with these
abbrev pub BeginsWith : List ℕ → List ℕ → Type 0
BeginsWith bytes front = (rest : List ℕ) × (bytes ≡ front ++ rest)

-- which sort of token begins, by its first byte or its first two
abbrev pub Shows : Sort → List ℕ → Type 0
Shows (a_mark m) bytes = BeginsWith bytes (mark_bytes m)
Shows a_number bytes = (d : ℕ) × (rest : List ℕ) × (is_ascii_digit d ≡ true) × ((bytes ≡ d ∷ rest) ⊎ (bytes ≡ 45 ∷ d ∷ rest))
Shows a_plain bytes = (c : ℕ) × (rest : List ℕ) × (is_ascii_lowercase c ≡ true) × (bytes ≡ c ∷ rest)
Shows a_quoted bytes = BeginsWith bytes (39 ∷ [])
Shows a_string bytes = BeginsWith bytes (34 ∷ [])

-- all that is asked but that keys are different from each other
abbrev pub with_repeats : Rules
with_repeats = record strict { distinct = false }

-- So far a text goes well: some tokens with which a text may begin, but no whole text, none of which ends a key that stands in its
-- map already, and then white space and comments are in front of the rest, whose offset this is.
pub record GoesWell (bytes : List ℕ) (tokens : List Token) (at : ℕ) (rest : List ℕ) : Type 0 where
  pub behind : List ℕ
  pub spelled : Spells tokens bytes behind
  pub skips : Skips behind rest
  pub offset : length bytes ≡ at + length rest
  pub begins : MayBegin with_repeats tokens
  pub unended : (t : TermValue) → IsText with_repeats t tokens → ⊥
  pub distinct : (front more before : List Token) → tokens ≡ front ++ more → Repeats front before → ⊥

-- the same, where the rest begins with neither white space nor a comment: the next token begins there
pub record IsNextToken (bytes : List ℕ) (tokens : List Token) (at : ℕ) (rest : List ℕ) : Type 0 where
  pub well : GoesWell bytes tokens at rest
  pub begins : ends false rest ≡ Some false

-- ---- a token that cannot stand there

-- No token that begins so, or may begin so with more bytes, can stand there: neither by the form alone nor one level deeper.
pub record IsStray (tokens : List Token) (rest : List ℕ) : Type 0 where
  pub none : (more : List ℕ) (sort : Sort) → Shows sort (rest ++ more) → MayStand (formal 257) tokens sort → ⊥

-- a token could stand there one level deeper, and cannot as it is
pub record IsDeep (tokens : List Token) (rest : List ℕ) : Type 0 where
  pub sort : Sort
  pub shows : Shows sort rest
  pub deeper : MayStand (formal 257) tokens sort
  pub not_here : MayStand (formal 256) tokens sort → ⊥

-- a token of this sort begins, and may stand there
pub record IsInPlace (tokens : List Token) (rest : List ℕ) (sort : Sort) : Type 0 where
  pub shows : Shows sort rest
  pub stands : MayStand (formal 256) tokens sort

-- ---- a token that is bad inside

-- an integer outside -2^127 .. 2^127 - 1, which further digits do not mend
pub record IsOutOfRange (tokens : List Token) (rest : List ℕ) : Type 0 where
  pub in_place : IsInPlace tokens rest a_number
  pub value : ℤ
  pub digits : List ℕ
  pub front : BeginsWith rest digits
  pub number : IsNumber value digits []
  pub wide : fits value ≡ false

-- more than 255 characters of an atom without quotes
pub record IsLongPlain (tokens : List Token) (rest : List ℕ) : Type 0 where
  pub in_place : IsInPlace tokens rest a_plain
  pub characters : List ℕ
  pub name : is_plain_atom characters ≡ true
  pub front : BeginsWith rest characters
  pub long : 255 < length characters

-- a sort of token in quotes, with the quote
abbrev pub IsQuote : Sort → ℕ → Type 0
IsQuote a_quoted quote = quote ≡ 39
IsQuote a_string quote = quote ≡ 34
IsQuote other quote = ⊥

-- so many characters may stand in it: 255 in an atom, and those of a string where one more level may be
abbrev pub MayHold : List Token → Sort → List ℕ → Type 0
MayHold tokens a_quoted cs = length cs ≤ 255
MayHold tokens a_string cs = (cs ≡ []) ⊎ MayBegin (formal 256) (tokens ++ string cs ∷ [])
MayHold tokens other cs = ⊥

-- some characters in quotes, which may stand there, and what follows them
pub record IsInside (tokens : List Token) (rest : List ℕ) (characters behind : List ℕ) : Type 0 where
  pub sort : Sort
  pub quote : ℕ
  pub quotes : IsQuote sort quote
  pub in_place : IsInPlace tokens rest sort
  pub inside : List ℕ
  pub opened : rest ≡ quote ∷ inside
  pub characters_are : AreCharacters quote characters inside behind
  pub hold : MayHold tokens sort characters

-- a character too many: the 256th of an atom in quotes, or the backslash in its place
pub record IsLongQuoted (tokens : List Token) (rest : List ℕ) : Type 0 where
  pub in_place : IsInPlace tokens rest a_quoted
  pub characters : List ℕ
  pub inside : List ℕ
  pub behind : List ℕ
  pub opened : rest ≡ 39 ∷ inside
  pub characters_are : AreCharacters 39 characters inside behind
  pub full : length characters ≡ 255
  pub one_more : BeginsWith behind (92 ∷ []) ⊎ ((c : ℕ) × (others : List ℕ) × IsItself 39 c behind others)

-- a code point of a string that stands at level 256
pub record IsDeepCharacter (tokens : List Token) (rest : List ℕ) : Type 0 where
  pub in_place : IsInPlace tokens rest a_string
  pub character : ℕ
  pub inside : List ℕ
  pub behind : List ℕ
  pub opened : rest ≡ 34 ∷ inside
  pub first : AreCharacters 34 (character ∷ []) inside behind
  pub deep : MayBegin (formal 256) (tokens ++ string (character ∷ []) ∷ []) → ⊥

-- a backslash that begins no escape, whatever follows
pub record IsBadEscape (tokens : List Token) (rest : List ℕ) : Type 0 where
  pub characters : List ℕ
  pub escape : List ℕ
  pub inside : IsInside tokens rest characters (92 ∷ escape)
  pub bad : (more : List ℕ) (c : ℕ) (behind : List ℕ) → Escapes c (escape ++ more) behind → ⊥

-- ---- a whole token that its place refuses

-- Where a token touches the end of the input, no longer one could stand there, whatever the keys of its map are.
abbrev pub IsSettled : List Token → (rest behind : List ℕ) → Type 0
IsSettled tokens rest behind = behind ≡ [] → (x : ℕ) (more : List ℕ) (longer : Token) → Stands longer (rest ++ x ∷ more) []
    → MayBegin with_repeats (tokens ++ longer ∷ []) → ⊥

-- A whole token, and what it is the last token of so far, which began at an offset: the tokens in front of that, and those inside it
-- before this one.
pub record IsLast (bytes : List ℕ) (offset : ℕ) (before inside : List Token) (token : Token) : Type 0 where
  pub first : List ℕ
  pub begins : IsNextToken bytes before offset first
  pub middle : List ℕ
  pub spelled : Spells inside first middle
  pub at : ℕ
  pub rest : List ℕ
  pub skips : Skips middle rest
  pub next : IsNextToken bytes (before ++ inside) at rest
  pub behind : List ℕ
  pub stands : Stands token rest behind
  pub settled : IsSettled (before ++ inside) rest behind

-- A token ends a key that stands in its map already. The offset is that of the key.
pub record RepeatsKey (bytes : List ℕ) (offset : ℕ) : Type 0 where
  pub before : List Token
  pub inside : List Token
  pub token : Token
  pub last : IsLast bytes offset before inside token
  pub in_place : MayBegin with_repeats ((before ++ inside) ++ token ∷ [])
  pub repeats : Repeats ((before ++ inside) ++ token ∷ []) before

-- What a token is to a segment: its value, its colon, or its number of bits; with the tokens in front of the segment, and those of
-- it that stand before this one.
abbrev pub IsOfSegment : (before inside : List Token) → Token → Type 0
IsOfSegment before [] (number z) = (front : List Token) → before ≡ front ++ mark Colon ∷ [] → ⊥
IsOfSegment before [] (string cs) = Unit {0}
IsOfSegment before (number v ∷ []) (mark Colon) = Unit {0}
IsOfSegment before (number v ∷ mark Colon ∷ []) (number n) = Unit {0}
IsOfSegment before inside token = ⊥

-- A segment out of range, where by its form the token may stand there. The offset is that of the segment's value.
pub record LeavesRange (bytes : List ℕ) (offset : ℕ) : Type 0 where
  pub before : List Token
  pub inside : List Token
  pub token : Token
  pub last : IsLast bytes offset before inside token
  pub segment : IsOfSegment before inside token
  pub in_form : MayBegin (formal 256) ((before ++ inside) ++ token ∷ [])
  pub refused : MayBegin with_repeats ((before ++ inside) ++ token ∷ []) → ⊥

-- a full stop behind a whole term that is no end
pub record IsNoEnd (tokens : List Token) (rest : List ℕ) : Type 0 where
  pub term : TermValue
  pub text : IsText strict term (tokens ++ mark FullStop ∷ [])
  pub behind : List ℕ
  pub stop : rest ≡ 46 ∷ behind
  pub no_end : ends true behind ≡ Some false

-- ---- bytes that are not UTF-8

-- in quotes, at an offset; the bytes of a character that the end of the input cuts are none of these
pub record IsBadInQuotes (bytes : List ℕ) (offset : ℕ) : Type 0 where
  pub tokens : List Token
  pub at : ℕ
  pub rest : List ℕ
  pub next : IsNextToken bytes tokens at rest
  pub characters : List ℕ
  pub behind : List ℕ
  pub inside : IsInside tokens rest characters behind
  pub some : 0 < length behind
  pub bad : (more : List ℕ) (c : ℕ) → IsScalar c → BeginsWith (behind ++ more) (encode_utf8 c) → ⊥
  pub there : length bytes ≡ offset + length behind

-- in a comment, at an offset; the bytes of a character that the end of the input cuts are among these
pub record IsBadInComment (bytes : List ℕ) (offset : ℕ) : Type 0 where
  pub tokens : List Token
  pub at : ℕ
  pub comment : List ℕ
  pub well : GoesWell bytes tokens at (37 ∷ comment)
  pub characters : List ℕ
  pub line : AreOfLine characters
  pub behind : List ℕ
  pub parted : comment ≡ encode_utf8_all characters ++ behind
  pub some : 0 < length behind
  pub bad : (c : ℕ) → IsScalar c → BeginsWith behind (encode_utf8 c) → ⊥
  pub there : length bytes ≡ offset + length behind

-- ---- the rules

-- a rule that is broken where the next token begins
pub record BreaksAt (Rule : List Token → List ℕ → Type 0) (bytes : List ℕ) (offset : ℕ) : Type 0 where
  pub tokens : List Token
  pub rest : List ℕ
  pub next : IsNextToken bytes tokens offset rest
  pub rule : Rule tokens rest

-- A finished input breaks a rule, and this offset is told, whatever its length is.
abbrev pub Breaks : List ℕ → ℕ → TextWhy → Type 0
Breaks bytes offset BadToken =
    BreaksAt (λ tokens rest. IsStray tokens rest ⊎ (IsLongPlain tokens rest ⊎ (IsLongQuoted tokens rest
    ⊎ (IsBadEscape tokens rest ⊎ IsNoEnd tokens rest)))) bytes offset
    ⊎ LeavesRange bytes offset
Breaks bytes offset BadUtf8 = IsBadInQuotes bytes offset ⊎ IsBadInComment bytes offset
Breaks bytes offset Depth = BreaksAt (λ tokens rest. IsDeep tokens rest ⊎ IsDeepCharacter tokens rest) bytes offset
Breaks bytes offset IntegerRange = BreaksAt IsOutOfRange bytes offset
Breaks bytes offset RepeatedKey = RepeatsKey bytes offset
Breaks bytes offset Unfinished = ⊥
Breaks bytes offset TooLong = ⊥

-- so many bytes from a term's first token on have no full stop of it among them, and break no rule
pub record IsTooLong (bytes : List ℕ) (offset : ℕ) : Type 0 where
  pub at : List ℕ
  pub begins : BeginsAt bytes at
  pub there : length bytes ≡ offset + length at
  pub long : longest ≤ length at
  pub no_stop : (t : TermValue) (rest : List ℕ) → IsSentence t (take (offset + longest) bytes) rest → ⊥
  pub no_fault : (o : ℕ) (why : TextWhy) → ((more : List ℕ) → Breaks (take (offset + longest) bytes ++ more) o why) → ⊥

-- white space and comments alone, the last of which may go on to the end of the input
abbrev pub IsBlankEnd : List ℕ → Type 0
IsBlankEnd bytes = IsBlank bytes ⊎ ((cs : List ℕ) × AreOfLine cs × Skips bytes (37 ∷ encode_utf8_all cs))

-- neither a term nor any fault but that the input ends too early
pub record IsUnfinished (bytes : List ℕ) (offset : ℕ) : Type 0 where
  pub end : offset ≡ length bytes
  pub not_blank : IsBlankEnd bytes → ⊥
  pub no_term : HasNone true bytes
  pub short : (o : ℕ) → IsTooLong bytes o → ⊥
  pub no_rule : (o : ℕ) (why : TextWhy) → Breaks bytes o why → ⊥

-- The fault of a finished input in whose front no term stands.
abbrev pub FaultOf : List ℕ → ℕ → TextWhy → Type 0
FaultOf bytes offset TooLong = IsTooLong bytes offset
FaultOf bytes offset Unfinished = IsUnfinished bytes offset
FaultOf bytes offset why = Breaks bytes offset why × ((o : ℕ) → IsTooLong bytes o → ⊥)
