-- A big integer of which a part was read. This project's own.
use Rattle.std.specs.Prelude.{◌≡◌, ◌-◌, ◌^◌, ◌≤◌, Result, Ok, Err}
use Rattle.dets_term.specs.TermValue.{TermValue, integer}
use Rattle.etf_model.specs.declared.fault.EtfFault.{EtfFault}
use Rattle.etf_model.specs.declared.fault.EtfFault.TheVariants.{Short}
use Rattle.etf_model.specs.Format.{Format, Position, Reading, changed}
use Rattle.etf_model.specs.Layout.{signed, limit}
use Rattle.etf_model.specs.Spelling.{magnitude_after}
use Rattle.etf_codec.specs.declared.big_integer.BigInteger.{BigInteger}
use Rattle.etf_codec.specs.GoesOn.{GoesOn}

-- the magnitude so far is in range, and so many bytes of it were read
abbrev pub IsBig : BigInteger → Type 0
IsBig b = (b.magnitude ≤ limit b.sign) × (b.index ≤ b.length)

-- the bytes that were not read yet
abbrev pub bytes_left : BigInteger → Format TermValue
bytes_left b = changed (magnitude_after (limit b.sign) (256 ^ b.index) b.magnitude (b.length - b.index)) (λ m. integer (signed b.sign m))

-- what reading them answers
abbrev pub integer_read : BigInteger → Position → Reading TermValue
integer_read b position = (bytes_left b).read b.start position

-- What is answered where the next byte stands: the integer, or the fault. Where the bytes end, those that were there were read,
-- and reading goes on with those that come.
abbrev pub IntegerReads : (old new : BigInteger) → Position → Position → Result TermValue EtfFault → Type 0
IntegerReads old new before behind (Ok t) = integer_read old before ≡ Ok (t, behind)
IntegerReads old new before behind (Err fault) =
    (integer_read old before ≡ Err fault) × (fault ≡ Short → IsBig new × (new.start ≡ old.start) × GoesOn (integer_read old) (integer_read new) before behind)
