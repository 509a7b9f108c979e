-- The fault of the lexeme that the input ends in.
use Rattle.std.proofs.Common.{◌≡◌, ℕ, ℤ, pos, ◌+◌, ◌*◌, ◌<◌, ◌≤◌, Bool, true, false, cond, not, ◌&&◌, List, [], ◌∷◌, ◌++◌, length, Some, Ok, Err}
use Rattle.std.proofs.Common.{refl, ap, ◌∙◌, sym, arith}
use Rattle.std.proofs.lemmas.Int.{ints}
use Rattle.std.proofs.lemmas.Bool.Decides.{nat_tests}
use Rattle.std.specs.Char.{IsScalar, encode_utf8}
use Rattle.text_model.specs.declared.fault.TextWhy.{TextWhy}
use Rattle.text_model.specs.declared.fault.TextWhy.TheVariants.{BadToken, BadUtf8}
use Rattle.text_model.specs.Token.{Token, fits}
use Rattle.text_model.specs.Characters.{number_in}
use Rattle.text_model.specs.Spelling.{Stands}
use Rattle.text_model.specs.Grammar.{strict, is_byte, is_sized}
use Rattle.text_model.specs.Faults.{BeginsWith, with_repeats}
use Rattle.text_model.specs.Nest.{Nest, Taken, Place, colon, take_segment, number_at, take}
use Rattle.text_model.specs.Reader.{digit, is_zero, longer_at, at_last}
use Rattle.text_model.proofs.Comes.{Before, IsInComment, signed}
use Rattle.text_model.proofs.ComesRows.{IsInPlace}
use Rattle.text_model.proofs.LongerTokens.{IsLonger, fits_nearer, byte_nearer, not_sized_minus, not_sized_above}

-- each longer token from here on is refused, whatever keys the map has
abbrev pub IsSettledAt : Nest → List ℕ → Type 0
IsSettledAt n front =
    (x : ℕ) (more : List ℕ) (longer : Token) (at : ℕ) → Stands longer (front ++ x ∷ more) []
    → (fault : ℕ × TextWhy) × (take with_repeats n at longer ≡ Err fault)

-- a whole token that its place refuses, and that touches the end of the input, where no longer one could stand
pub record LastTokenRow (p : List ℕ) (o : ℕ) (why : TextWhy) : Type 0 where
  pub nest : Nest
  pub start : ℕ
  pub front : List ℕ
  pub before : Before p nest start front
  pub token : Token
  pub stands : Stands token front []
  pub in_place : IsInPlace nest why token
  pub refused : take strict nest start token ≡ Err (o, why)
  pub settled : IsSettledAt nest front

-- bytes in the last comment that are no whole character
pub record LastCommentRow (p : List ℕ) (o : ℕ) (why : TextWhy) : Type 0 where
  pub nest : Nest
  pub bytes : List ℕ
  pub comment : IsInComment p nest bytes
  pub some : 0 < length bytes
  pub there : length p ≡ o + length bytes
  pub bad : (c : ℕ) → IsScalar c → BeginsWith bytes (encode_utf8 c) → ⊥
  pub reason : why ≡ BadUtf8

-- A fault that is told where the input ends.
pub data LastRow (p : List ℕ) (o : ℕ) (why : TextWhy) : Type 0 where
  last_token_row : LastTokenRow p o why → LastRow p o why
  last_comment_row : LastCommentRow p o why → LastRow p o why

-- ---- longer tokens

-- one fault is told, and no more may follow
pub at_last_fault : (b : Bool) (t : Taken) (fault : ℕ × TextWhy) → at_last b t ≡ Some fault → (b ≡ false) × (t ≡ Err fault)
at_last_fault b (Ok n) fault e = cc
at_last_fault true (Err f) fault e = cc
at_last_fault false (Err f) fault e = (refl, cc)

refused_by : (b : Bool) (f : ℕ × TextWhy) (m : Nest) (fault : ℕ × TextWhy) → cond {A = Taken} (not b) (Err f) (Ok m) ≡ Err fault → b ≡ false
refused_by true f m fault e = cc
refused_by false f m fault e = refl

refuses_by : (b : Bool) (f : ℕ × TextWhy) (m : Nest) → b ≡ false → cond {A = Taken} (not b) (Err f) (Ok m) ≡ Err f
refuses_by true f m e = cc
refuses_by false f m e = refl

abbrev pub Fails : Taken → Type 0
Fails t = (fault : ℕ × TextWhy) × (t ≡ Err fault)

digit_zero : (minus : Bool) (k : ℕ) → digit minus (signed minus k) 48 ≡ signed minus (10 * k)
digit_zero true k = omega (arith, ints)
digit_zero false k = omega (arith, ints)

-- a number that has no room for one more digit has no longer one
no_wider : (minus : Bool) (z w : ℤ) (ds : List ℕ) → z ≡ signed minus (number_in 10 ds) → IsLonger minus ds w → fits w ≡ true
    → fits (digit minus z 48) ≡ false → ⊥
no_wider minus z w ds v l f e =
    let wide : fits (signed minus l.least) ≡ true = ap fits (sym l.value) ∙ f in
    let near : fits (signed minus (10 * number_in 10 ds)) ≡ true = fits_nearer minus (10 * number_in 10 ds) l.least l.far wide in
    let same : digit minus z 48 ≡ signed minus (10 * number_in 10 ds) = ap (λ y. digit minus y 48) v ∙ digit_zero minus (number_in 10 ds) in
    let clash : true ≡ false = sym near ∙ ap fits (sym same) ∙ e in
    cc

size_longer : (minus : Bool) (v z w : ℤ) (ds : List ℕ) → z ≡ signed minus (number_in 10 ds) → IsLonger minus ds w → (not minus && is_zero z) ≡ false
    → is_sized v w ≡ false
size_longer true v z w ds e l f = ap (is_sized v) l.value ∙ not_sized_minus v l.least
size_longer false v z w ds e l f =
    let some : 0 < number_in 10 ds = not_zero (number_in 10 ds) (ap is_zero (sym e) ∙ f) in
    let far : 10 * number_in 10 ds ≤ l.least = l.far in
    ap (is_sized v) l.value ∙ not_sized_above v l.least (omega arith)
  where
    not_zero : (k : ℕ) → is_zero (pos k) ≡ false → 0 < k
    not_zero k e = grind (arith, nat_tests)

number_at_longer : (n : Nest) (start at : ℕ) (minus : Bool) (z w : ℤ) (ds : List ℕ) (place : Place) (fault : ℕ × TextWhy)
    → z ≡ signed minus (number_in 10 ds) → IsLonger minus ds w → fits w ≡ true → longer_at place minus z ≡ false
    → Fails (number_at with_repeats n at w place)
number_at_longer n start at minus z w ds (colon s v) fault e l f g =
    ((s, BadToken), refuses_by (is_sized v w) (s, BadToken) _ (size_longer minus v z w ds e l g))
number_at_longer n start at minus z w ds other fault e l f g = absurd (no_wider minus z w ds e l f g)

pub take_longer : (n : Nest) (start at : ℕ) (minus : Bool) (z w : ℤ) (ds : List ℕ) (fault : ℕ × TextWhy) (b : Bool)
    → z ≡ signed minus (number_in 10 ds) → IsLonger minus ds w → fits w ≡ true → cond b false (longer_at n.place minus z) ≡ false
    → cond b (take_segment strict n start z) (number_at strict n start z n.place) ≡ Err fault
    → Fails (cond b (take_segment with_repeats n at w) (number_at with_repeats n at w n.place))
take_longer n start at minus z w ds fault true e l f g h =
    let no_byte : is_byte z ≡ false = refused_by (is_byte z) _ _ fault h in
    let far : 10 * number_in 10 ds ≤ l.least = l.far in
    let farther : is_byte (signed minus l.least) ≡ false =
    byte_nearer minus (number_in 10 ds) l.least (omega arith) (ap is_byte (sym e) ∙ no_byte) in
    ((at, BadToken), refuses_by (is_byte w) (at, BadToken) _ (ap is_byte l.value ∙ farther))
take_longer n start at minus z w ds fault false e l f g h = number_at_longer n start at minus z w ds n.place fault e l f g
