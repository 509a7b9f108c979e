-- The grammar of printed terms: which tokens are a text of a term. A term has many. This project's own, after the term and
-- bit syntax of the Erlang reference manual.
use Rattle.std.specs.Prelude.{◌≡◌, ℕ, zero, suc, ◌-◌, ◌^◌, ℤ, pos, negsuc, Bool, true, false, ◌&&◌, nat_le, nat_lt, List, [], ◌∷◌, drop, ◌⊎◌}
use Rattle.std.specs.List.{flat_map, AllByRecursion}
use Rattle.dets_term.specs.TermValue.{TermValue, integer, atom, tuple, nil, bits, chain, map_of}
use Rattle.dets_term.specs.BitString.{byte_bits}
use Rattle.dets_term.specs.Pairs.{keys, placed, repeats}
use Rattle.etf_model.specs.Layout.{integers}
use Rattle.text_model.specs.declared.mark.Mark.{Mark}
use Rattle.text_model.specs.declared.mark.Mark.TheVariants.{OpenTuple, OpenMap, CloseBrace, OpenList, CloseList, OpenBits, CloseBits, Bar, Comma}
use Rattle.text_model.specs.declared.mark.Mark.TheVariants.{Arrow, Colon, FullStop}
use Rattle.text_model.specs.Token.{Token, mark, number, plain, quoted, string}
use Rattle.text_model.specs.Characters.{each}

-- What is asked of a text beside its form.
pub record Rules : Type 0 where
  -- how many levels a term may have; the parts of a term are one level deeper than it is
  pub levels : ℕ
  -- the keys of a map are different from each other
  pub distinct : Bool
  -- the segments of a bit string are in range
  pub ranged : Bool

-- all that is asked
abbrev pub strict : Rules
strict = record { levels = 256; distinct = true; ranged = true }

-- the form alone, to so many levels
abbrev pub formal : ℕ → Rules
formal levels = record { levels = levels; distinct = false; ranged = false }

-- ---- items with commas between them

-- The items that follow another one, each behind a comma, and an end. An item stands in front of some tokens, and others
-- are behind it.
abbrev pub Behind : {A : Type 0} → (A → List Token → List Token → Type 0) → (List Token → List Token → Type 0) → List A → List Token → List Token → Type 0
Behind Item End [] tokens rest = End tokens rest
Behind Item End (item ∷ items) tokens rest =
    (first : List Token) × (behind : List Token) × (tokens ≡ mark Comma ∷ first) × Item item first behind × Behind Item End items behind rest

-- one item or more, and an end
abbrev pub Separated : {A : Type 0} → (A → List Token → List Token → Type 0) → (List Token → List Token → Type 0) → List A → List Token → List Token → Type 0
Separated Item End [] tokens rest = ⊥
Separated Item End (item ∷ items) tokens rest = (behind : List Token) × Item item tokens behind × Behind Item End items behind rest

-- a mark alone
abbrev pub Closes : Mark → List Token → List Token → Type 0
Closes m tokens rest = tokens ≡ mark m ∷ rest

-- any number of items, up to and with a closing mark
abbrev pub Enclosed : {A : Type 0} → (A → List Token → List Token → Type 0) → Mark → List A → List Token → List Token → Type 0
Enclosed Item m [] tokens rest = Closes m tokens rest
Enclosed Item m (item ∷ items) tokens rest = Separated Item (Closes m) (item ∷ items) tokens rest

-- ---- lists

-- the end of a list: its bracket, or a bar, the tail and the bracket
abbrev pub EndsList : (TermValue → List Token → List Token → Type 0) → TermValue → List Token → List Token → Type 0
EndsList Part tail tokens rest =
    ((tail ≡ nil) × Closes CloseList tokens rest)
    ⊎ ((behind : List Token) × (tokens ≡ mark Bar ∷ behind) × Part tail behind (mark CloseList ∷ rest))

-- behind its opening bracket: the empty list, or elements and an end; a tail that is a list is joined
abbrev pub InList : (TermValue → List Token → List Token → Type 0) → TermValue → List Token → List Token → Type 0
InList Part t tokens rest =
    ((t ≡ nil) × Closes CloseList tokens rest)
    ⊎ ((parts : List TermValue) × (tail : TermValue) × (t ≡ chain parts tail) × Separated Part (EndsList Part tail) parts tokens rest)

-- ---- maps

-- a key, an arrow and a value
abbrev pub IsPair : (TermValue → List Token → List Token → Type 0) → TermValue × TermValue → List Token → List Token → Type 0
IsPair Part pair tokens rest = (behind : List Token) × Part pair.0 tokens (mark Arrow ∷ behind) × Part pair.1 behind rest

-- pairs put one after the other among those of a map, which ascend by key
abbrev pub all_placed : List (TermValue × TermValue) → List (TermValue × TermValue) → List (TermValue × TermValue)
all_placed sorted [] = sorted
all_placed sorted (p ∷ ps) = all_placed (placed p sorted) ps

-- behind its opening mark: pairs in any order
abbrev pub InMap : Rules → (TermValue → List Token → List Token → Type 0) → TermValue → List Token → List Token → Type 0
InMap rules Part t tokens rest =
    (pairs : List (TermValue × TermValue)) × (t ≡ map_of (all_placed [] pairs)) × (rules.distinct ≡ true → repeats (keys pairs) ≡ false)
    × Enclosed (IsPair Part) CloseBrace pairs tokens rest

-- ---- bit strings

-- a number of one byte
abbrev pub is_byte : ℤ → Bool
is_byte (pos n) = nat_lt n 256
is_byte (negsuc n) = false

-- a number of bits from 1 to 7, and a number that they hold
abbrev pub is_sized : ℤ → ℤ → Bool
is_sized (pos v) (pos n) = nat_le 1 n && (nat_le n 7 && nat_lt v (2 ^ n))
is_sized other n = false

-- the last bits of a number's last byte, at most eight
abbrev pub last_bits : ℕ → ℤ → List Bool
last_bits count (pos v) = drop (8 - count) (byte_bits v)
last_bits count (negsuc v) = []

-- so many of them as another number says
abbrev pub sized_bits : ℤ → ℤ → List Bool
sized_bits v (pos n) = last_bits n v
sized_bits v (negsuc n) = []

-- a segment of whole bytes: a number of one byte, or a string of code points that are bytes
abbrev pub IsSegment : Rules → List Bool → List Token → List Token → Type 0
IsSegment rules bs tokens rest =
    ((v : ℤ) × (tokens ≡ number v ∷ rest) × (rules.ranged ≡ true → is_byte v ≡ true) × (bs ≡ last_bits 8 v))
    ⊎ ((cs : List ℕ) × (tokens ≡ string cs ∷ rest) × (rules.ranged ≡ true → each (λ c. nat_lt c 256) cs ≡ true) × (bs ≡ flat_map byte_bits cs))

-- a number, a colon and how many bits it has
abbrev pub IsSized : Rules → List Bool → List Token → List Token → Type 0
IsSized rules bs tokens rest =
    (v : ℤ) × (n : ℤ) × (tokens ≡ number v ∷ mark Colon ∷ number n ∷ rest) × (rules.ranged ≡ true → is_sized v n ≡ true) × (bs ≡ sized_bits v n)

-- segments by their bits, up to and with the closing mark; only the last one may say how many bits it has
abbrev pub AreSegments : Rules → List (List Bool) → List Token → List Token → Type 0
AreSegments rules [] tokens rest = ⊥
AreSegments rules (bs ∷ []) tokens rest = IsSegment rules bs tokens (mark CloseBits ∷ rest) ⊎ IsSized rules bs tokens (mark CloseBits ∷ rest)
AreSegments rules (bs ∷ cs ∷ more) tokens rest =
    (behind : List Token) × IsSegment rules bs tokens (mark Comma ∷ behind) × AreSegments rules (cs ∷ more) behind rest

-- behind its opening mark: no segment, or some
abbrev pub InBits : Rules → TermValue → List Token → List Token → Type 0
InBits rules t tokens rest =
    ((t ≡ bits []) × Closes CloseBits tokens rest)
    ⊎ ((segments : List (List Bool)) × (t ≡ bits (flat_map (λ bs. bs) segments)) × AreSegments rules segments tokens rest)

-- ---- terms

-- A text of a term in front of some tokens, and what is behind it, by its first token. Its parts are to be such texts
-- too; each code point of a string is a part, and stands where its number could stand.
abbrev pub Form : Rules → (TermValue → List Token → List Token → Type 0) → TermValue → List Token → List Token → Type 0
Form rules Part t [] rest = ⊥
Form rules Part t (number z ∷ tokens) rest = (t ≡ integer z) × (tokens ≡ rest)
Form rules Part t (plain cs ∷ tokens) rest = (t ≡ atom cs) × (tokens ≡ rest)
Form rules Part t (quoted cs ∷ tokens) rest = (t ≡ atom cs) × (tokens ≡ rest)
Form rules Part t (string cs ∷ tokens) rest =
    (t ≡ integers cs) × AllByRecursion (λ c. Part (integer (pos c)) (number (pos c) ∷ []) []) cs × (tokens ≡ rest)
Form rules Part t (mark OpenTuple ∷ tokens) rest =
    (parts : List TermValue) × (t ≡ tuple (chain parts nil)) × Enclosed Part CloseBrace parts tokens rest
Form rules Part t (mark OpenMap ∷ tokens) rest = InMap rules Part t tokens rest
Form rules Part t (mark OpenList ∷ tokens) rest = InList Part t tokens rest
Form rules Part t (mark OpenBits ∷ tokens) rest = InBits rules t tokens rest
Form rules Part t (mark other ∷ tokens) rest = ⊥

-- a text of a term that has at most so many levels as it is spelled
abbrev pub Text : Rules → (levels : ℕ) → TermValue → List Token → List Token → Type 0
Text rules zero t tokens rest = ⊥
Text rules (suc levels) t tokens rest = Form rules (Text rules levels) t tokens rest

-- a term's text and its full stop
abbrev pub IsText : Rules → TermValue → List Token → Type 0
IsText rules t tokens = Text rules rules.levels t tokens (mark FullStop ∷ [])
