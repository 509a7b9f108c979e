-- Relations by what reading computes to.
use Rattle.std.proofs.Common.{◌≡◌, ℕ, List, [], ◌∷◌, ◌++◌, length, Ok, Err, refl, ap, ◌∙◌, sym, subst, append-nil}
use Rattle.dets_term.specs.TermValue.{TermValue}
use Rattle.etf_model.specs.declared.fault.EtfFault.{EtfFault}
use Rattle.etf_model.specs.declared.fault.EtfFault.TheVariants.{Short}
use Rattle.etf_model.specs.Format.{Reading}
use Rattle.etf_model.specs.Spelling.{spelling, Spells, IsPart, IsBreak}
use Rattle.etf_model.specs.SpellingExact.{spelling-exact}
use Rattle.etf_model.specs.Beginnings.{break_or_part}

-- what reading bytes answers
abbrev pub reading : List ℕ → Reading TermValue
reading bytes = spelling.read 0 (record { offset = 0; left = bytes })

pub spelled : (t : TermValue) (bytes : List ℕ) → reading bytes ≡ Ok (t, record { offset = length bytes; left = [] }) → Spells t bytes
spelled t bytes e =
    let b = spelling-exact.read_whole 0 (record { offset = 0; left = bytes }) t (record { offset = length bytes; left = [] }) e in
    subst (Spells t) (sym (b.bytes ∙ append-nil b.front)) b.holds

pub part : (bytes : List ℕ) → reading bytes ≡ Err Short → IsPart bytes
part bytes e = spelling-exact.read_part 0 (record { offset = 0; left = bytes }) e

-- some bytes without their last
abbrev pub but_last : List ℕ → List ℕ
but_last [] = []
but_last (x ∷ []) = []
but_last (x ∷ y ∷ rest) = x ∷ but_last (y ∷ rest)

but_last-append : (front : List ℕ) (x : ℕ) (rest : List ℕ) → but_last (front ++ (x ∷ rest)) ≡ front ++ but_last (x ∷ rest)
but_last-append [] x rest = refl
but_last-append (y ∷ []) x rest = refl
but_last-append (y ∷ z ∷ front) x rest = ap (λ l. y ∷ l) (but_last-append (z ∷ front) x rest)

ends_whole : (bytes front rest : List ℕ) (fault : EtfFault) → IsPart (but_last bytes) → IsBreak 0 front fault → bytes ≡ front ++ rest → front ≡ bytes
ends_whole bytes front [] fault p b e = sym (append-nil front) ∙ sym e
ends_whole bytes front (x ∷ rest) fault p b e =
    absurd (break_or_part spelling spelling-exact 0 (but_last bytes)
    (fault, record { front = front; rest = but_last (x ∷ rest); holds = b; whole = ap but_last e ∙ but_last-append front x rest }) p)

-- a fault that comes with the last byte
pub broken : (bytes : List ℕ) (fault : EtfFault) → reading bytes ≡ Err fault → reading (but_last bytes) ≡ Err Short → (fault ≡ Short → ⊥)
    → IsBreak 0 bytes fault
broken bytes fault e p other =
    let b = spelling-exact.read_break 0 (record { offset = 0; left = bytes }) fault e other in
    subst (λ l. IsBreak 0 l fault) (ends_whole bytes b.front b.rest fault (part (but_last bytes) p) b.holds b.whole) b.holds
