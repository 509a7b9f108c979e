-- A big integer with one more byte of its magnitude.
use Rattle.std.proofs.Common.{◌≡◌, ℕ, ◌+◌, ◌*◌, ◌-◌, ◌^◌, ◌<◌, ◌≤◌, List, [], ◌∷◌, Result, Ok, Err, ap, sym, ◌∙◌, subst, arith}
use Rattle.std.specs.Result.{IsErrAnd}
use Rattle.dets_term.specs.TermValue.{TermValue, integer}
use Rattle.etf_model.specs.declared.fault.EtfFault.{EtfFault}
use Rattle.etf_model.specs.declared.fault.EtfFault.TheVariants.{Short, IntegerRange}
use Rattle.etf_model.specs.Format.{Position, Reading, byte, first_byte, go_on}
use Rattle.etf_model.specs.Layout.{signed, limit}
use Rattle.etf_model.specs.Spelling.{magnitude_after}
use Rattle.etf_model.specs.Exactness.{byte-exact}
use Rattle.etf_codec.specs.declared.big_integer.BigInteger.{BigInteger}
use Rattle.etf_codec.specs.BigIntegers.{IsBig, integer_read, IntegerReads}
use Rattle.etf_codec.specs.GoesOn.{GoesOn}
use Rattle.etf_codec.proofs.Bytes.{go_on_err, pow_256_more}
use Rattle.etf_codec.proofs.Magnitudes.{magnitude_more, magnitude_passes, magnitude_fails}
use Rattle.etf_codec.proofs.Onward.{goes_on_here, goes_on_then, goes_on_as, whatever_follows}

abbrev with_byte : BigInteger → ℕ → BigInteger
with_byte b digit = record b { magnitude = b.magnitude + 256 ^ b.index * digit; index = b.index + 1 }

-- the value of a magnitude
abbrev valued : BigInteger → Reading ℕ → Reading TermValue
valued b r = go_on r (λ m behind. Ok (integer (signed b.sign m), behind))

-- at one position
one_more : (b : BigInteger) (digit : ℕ) (position next : Position) → b.index < b.length → byte.read b.start position ≡ Ok (digit, next)
    → b.magnitude + 256 ^ b.index * digit ≤ limit b.sign
    → integer_read b position ≡ integer_read (with_byte b digit) next
one_more b digit position next more e fits =
    let fewer : b.length - b.index - 1 ≡ b.length - (b.index + 1) = omega arith in
    ap (valued b)
    (magnitude_more (limit b.sign) (256 ^ b.index) b.magnitude (b.length - b.index) b.start position digit next (omega arith) e fits
    ∙ ap (λ w. (magnitude_after (limit b.sign) w (b.magnitude + 256 ^ b.index * digit) (b.length - b.index - 1)).read b.start next) (sym (pow_256_more b.index))
    ∙ ap (λ n. (magnitude_after (limit b.sign) (256 ^ (b.index + 1)) (b.magnitude + 256 ^ b.index * digit) n).read b.start next) fewer)

integer_more : (b : BigInteger) (digit : ℕ) (position next : Position) → b.index < b.length → byte.read b.start position ≡ Ok (digit, next)
    → b.magnitude + 256 ^ b.index * digit ≤ limit b.sign
    → GoesOn (integer_read b) (integer_read (with_byte b digit)) position next
integer_more b digit position next more e fits =
    goes_on_as (byte.read b.start) (λ later. Ok (digit, later)) (integer_read b) (integer_read (with_byte b digit)) position next
    (whatever_follows byte byte-exact b.start position next digit e)
    (λ here later same. one_more b digit (record { offset = position.offset; left = here }) (record { offset = next.offset; left = later }) more same fits)

-- with a byte it passes the limit
passes : (b : BigInteger) (digit : ℕ) (position next : Position) → b.index < b.length → byte.read b.start position ≡ Ok (digit, next)
    → limit b.sign < b.magnitude + 256 ^ b.index * digit
    → integer_read b position ≡ Err (IntegerRange b.start)
passes b digit position next more e past =
    go_on_err _ _ _ (magnitude_passes (limit b.sign) (256 ^ b.index) b.magnitude (b.length - b.index) b.start position digit next (omega arith) e past)

-- the only fault of a byte
byte_fault : (here : ℕ) (left : List ℕ) (fault : EtfFault) → first_byte here left ≡ Err fault → fault ≡ Short
byte_fault here [] fault e = let same : Short ≡ fault = cc in sym same
byte_fault here (x ∷ left) fault e = cc

no_byte : (b : BigInteger) (position : Position) (fault : EtfFault) → b.index < b.length → byte.read b.start position ≡ Err fault
    → integer_read b position ≡ Err Short
no_byte b position fault more e =
    go_on_err _ _ _ (magnitude_fails (limit b.sign) (256 ^ b.index) b.magnitude (b.length - b.index) b.start position Short (omega arith)
    (e ∙ ap Err (byte_fault position.offset position.left fault e)))

-- ---- what is answered

module _ (old now : BigInteger) (before position : Position) (g : GoesOn (integer_read old) (integer_read now) before position) where
  pub integer_short : (answer : Result TermValue EtfFault) (fault : EtfFault) → IsErrAnd answer (λ y. y ≡ fault) → IsBig now → now.start ≡ old.start
      → now.index < now.length
      → byte.read now.start position ≡ Err fault → IntegerReads old now before position answer
  integer_short (Ok t) fault h big start more e = absurd h
  integer_short (Err y) fault h big start more e =
      subst (λ f. IntegerReads old now before position (Err f)) (sym (h ∙ byte_fault position.offset position.left fault e))
      (goes_on_here (integer_read old) (integer_read now) before position g ∙ no_byte now position fault more e, λ short. (big, start, g))

  pub integer_passes : (new : BigInteger) (next : Position) (answer : Result TermValue EtfFault) (fault : EtfFault) (digit : ℕ)
      → IsErrAnd answer (λ y. y ≡ fault) → fault ≡ IntegerRange old.start
      → now.start ≡ old.start → now.index < now.length → byte.read now.start position ≡ Ok (digit, next)
      → limit now.sign < now.magnitude + 256 ^ now.index * digit
      → IntegerReads old new before next answer
  integer_passes new next (Ok t) fault digit h f start more e past = absurd h
  integer_passes new next (Err y) fault digit h f start more e past =
      subst (λ f. IntegerReads old new before next (Err f)) (sym (h ∙ f)) (
        goes_on_here (integer_read old) (integer_read now) before position g ∙ passes now digit position next more e past
            ∙ ap (λ o. Err (IntegerRange o)) start,
        λ short. let clash : IntegerRange old.start ≡ Short = short in cc,
      )

  pub integer_grows : (digit magnitude : ℕ) (next : Position) → now.index < now.length → byte.read now.start position ≡ Ok (digit, next)
      → magnitude ≡ now.magnitude + 256 ^ now.index * digit → magnitude ≤ limit now.sign
      → GoesOn (integer_read old) (integer_read (record now { magnitude = magnitude; index = now.index + 1 })) before next
  integer_grows digit magnitude next more e same fits =
      goes_on_then (integer_read old) (integer_read now) (integer_read (record now { magnitude = magnitude; index = now.index + 1 })) before position next g
      (subst (λ m. GoesOn (integer_read now) (integer_read (record now { magnitude = m; index = now.index + 1 })) position next) (sym same)
      (integer_more now digit position next more e (subst (λ m. m ≤ limit now.sign) same fits)))
