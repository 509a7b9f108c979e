-- What bytes decode to is settled by reading them.
use Rattle.std.proofs.Common.{◌≡◌, ◌≢◌, ℕ, List, ◌∷◌, ◌++◌, length, take, drop, Result, Ok, Err, refl, ap, sym, ◌∙◌, arith}
use Rattle.std.proofs.lemmas.List.{take-append-drop, length-take-le}
use Rattle.dets_term.specs.IsTerm.{IsTerm}
use Rattle.dets_term.specs.TermValue.{TermValue}
use Rattle.etf_model.specs.declared.fault.EtfFault.{EtfFault}
use Rattle.etf_model.specs.declared.fault.EtfFault.TheVariants.{Short, NotVersion, Unsupported, Compressed, IntegerRange, BadAtom, BadBits, RepeatedKey, Depth}
use Rattle.etf_model.specs.declared.fault.EtfFault.TheVariants.{LongTerm, Memory}
use Rattle.etf_model.specs.declared.tags.TheConstants.{VERSION}
use Rattle.etf_model.specs.Canonical.{canonical}
use Rattle.etf_model.specs.Decoding.{IsDecoding}
use Rattle.etf_model.specs.Fronts.{Begins}
use Rattle.etf_model.specs.Format.{Reading}
use Rattle.etf_model.specs.Spelling.{spelling, Spells, IsBreak}
use Rattle.etf_model.proofs.CanonicalSpells.{canonical_spells}
use Rattle.etf_model.specs.SpellingExact.{spelling-exact}

-- a reading with the offset behind the value in place of the position
abbrev told : Reading TermValue → Result (TermValue × ℕ) EtfFault
told (Ok r) = Ok (r.0, r.1.offset)
told (Err fault) = Err fault

abbrev from_front : List ℕ → Reading TermValue
from_front bytes = spelling.read 0 (record { offset = 0; left = bytes })

spelled_front : (t : TermValue) (front rest : List ℕ) → Spells t front → told (from_front (front ++ rest)) ≡ Ok (t, length front)
spelled_front t front rest s = ap told (spelling-exact.whole_read 0 0 t front rest s) ∙ ap (λ n. Ok (t, n)) (omega arith)

broken_front : (bytes : List ℕ) (fault : EtfFault) → Begins (λ front. IsBreak 0 front fault) bytes → told (from_front bytes) ≡ Err fault
broken_front bytes fault b = ap (λ bs. told (from_front bs)) b.whole ∙ ap told (spelling-exact.break_read 0 0 b.front b.rest fault b.holds)

-- each decoding but want of memory is what reading tells
settled : (bytes : List ℕ) (r : Result (TermValue × ℕ) EtfFault) → IsDecoding bytes r → r ≢ Err Memory → told (from_front bytes) ≡ r
settled bytes (Ok r) d other =
    ap (λ bs. told (from_front bs)) (sym (take-append-drop r.1 bytes)) ∙ spelled_front r.0 (take r.1 bytes) (drop r.1 bytes) d.whole
    ∙ ap (λ n. Ok (r.0, n)) (length-take-le r.1 bytes d.fits)
settled bytes (Err Short) d other = ap told (spelling-exact.part_read 0 0 bytes d)
settled bytes (Err Memory) d other = absurd (other refl)
settled bytes (Err (NotVersion at)) d other = broken_front bytes (NotVersion at) d
settled bytes (Err (Unsupported at tag)) d other = broken_front bytes (Unsupported at tag) d
settled bytes (Err (Compressed at)) d other = broken_front bytes (Compressed at) d
settled bytes (Err (IntegerRange at)) d other = broken_front bytes (IntegerRange at) d
settled bytes (Err (BadAtom at)) d other = broken_front bytes (BadAtom at) d
settled bytes (Err (BadBits at)) d other = broken_front bytes (BadBits at) d
settled bytes (Err (RepeatedKey at)) d other = broken_front bytes (RepeatedKey at) d
settled bytes (Err (Depth at)) d other = broken_front bytes (Depth at) d
settled bytes (Err (LongTerm at)) d other = broken_front bytes (LongTerm at) d

pub one_decoding : (bytes : List ℕ) (r s : Result (TermValue × ℕ) EtfFault) → IsDecoding bytes r → IsDecoding bytes s → r ≢ Err Memory → s ≢ Err Memory → r ≡ s
one_decoding bytes r s d e m n = sym (settled bytes r d m) ∙ settled bytes s e n

pub decodes_to_its_term : (t : TermValue) (front rest : List ℕ) (r : Result (TermValue × ℕ) EtfFault) → Spells t front → IsDecoding (front ++ rest) r
    → r ≢ Err Memory → r ≡ Ok (t, length front)
decodes_to_its_term t front rest r s d other = sym (settled (front ++ rest) r d other) ∙ spelled_front t front rest s

pub encoding_decodes : (t : TermValue) (rest : List ℕ) (r : Result (TermValue × ℕ) EtfFault) → IsTerm t → IsDecoding ((VERSION ∷ canonical t) ++ rest) r
    → r ≢ Err Memory
    → r ≡ Ok (t, length (VERSION ∷ canonical t))
encoding_decodes t rest r term d other = decodes_to_its_term t (VERSION ∷ canonical t) rest r (canonical_spells t term) d other
