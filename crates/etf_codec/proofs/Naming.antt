-- The texts of atoms.
use Rattle.std.proofs.Common.{◌≡◌, ℕ, ◌<◌, ◌≤◌, ◌⊎◌, Bool, true, false, List, length, Result, Ok, Err, nat_le, refl, ap, ◌∙◌, subst, inl, inr, arith}
use Rattle.std.specs.Prelude.{IfOk, IfErr}
use Rattle.std.proofs.lemmas.Bool.Decides.{nat_tests}
use Rattle.std.proofs.lemmas.Str.{is_utf8-from_IsUtf8, IsUtf8-from_is_utf8}
use Rattle.std.specs.Str.{chars, is_utf8, IsUtf8}
use Rattle.dets_term.specs.TermValue.{TermValue, atom}
use Rattle.etf_model.specs.declared.fault.EtfFault.{EtfFault}
use Rattle.etf_model.specs.declared.fault.EtfFault.TheVariants.{Memory, BadAtom}
use Rattle.etf_model.specs.Layout.{is_name}
use Rattle.etf_codec.specs.ReadTerms.{IsAtomOf}

short_passes : (n : ℕ) → n ≤ 255 → nat_le n 255 ≡ true
short_passes n h = grind (arith, nat_tests)

long_fails : (n : ℕ) → 255 < n → nat_le n 255 ≡ false
long_fails n h = grind (arith, nat_tests)

-- the answer for a text is that for its bytes in UTF-8
pub IsAtomOf-utf8 : (text bytes : List ℕ) (term : ℕ) (r : Result TermValue EtfFault) → text ≡ bytes → IsUtf8 bytes
    → IfOk r (λ t. (length (chars text) ≤ 255) × (t ≡ atom (chars text)))
    → IfErr r (λ fault. ((length (chars text) ≤ 255) × (fault ≡ Memory)) ⊎ ((255 < length (chars text)) × (fault ≡ BadAtom term)))
    → IsAtomOf true bytes term r
IsAtomOf-utf8 text bytes term (Ok t) same utf8 ok err =
    let e = is_utf8-from_IsUtf8 bytes utf8 in
    let short = short_passes (length (chars bytes)) (subst (λ (bs : List ℕ). length (chars bs) ≤ 255) same ok.0) in
    (rw (e, short) refl, ok.1 ∙ ap (λ bs. atom (chars bs)) same)
IsAtomOf-utf8 text bytes term (Err fault) same utf8 ok (inl memory) =
    let e = is_utf8-from_IsUtf8 bytes utf8 in
    let short = short_passes (length (chars bytes)) (subst (λ (bs : List ℕ). length (chars bs) ≤ 255) same memory.0) in
    inl (rw (e, short) refl, memory.1)
IsAtomOf-utf8 text bytes term (Err fault) same utf8 ok (inr bad) =
    let e = is_utf8-from_IsUtf8 bytes utf8 in
    let long = long_fails (length (chars bytes)) (subst (λ (bs : List ℕ). 255 < length (chars bs)) same bad.0) in
    inr (rw (e, long) refl, bad.1)

pub is_name-not_utf8 : (bytes : List ℕ) → (IsUtf8 bytes → ⊥) → is_name true bytes ≡ false
is_name-not_utf8 bytes bad = not_utf8 bytes (is_utf8 bytes) refl bad where
  not_utf8 : (bytes : List ℕ) (b : Bool) → is_utf8 bytes ≡ b → (IsUtf8 bytes → ⊥) → is_name true bytes ≡ false
  not_utf8 bytes true e bad = absurd (bad (IsUtf8-from_is_utf8 bytes e))
  not_utf8 bytes false e bad = rw e refl

-- the answer for a text of these characters is that for them in Latin-1
pub IsAtomOf-latin_1 : (text bytes : List ℕ) (term : ℕ) (r : Result TermValue EtfFault) → chars text ≡ bytes
    → IfOk r (λ t. (length (chars text) ≤ 255) × (t ≡ atom (chars text)))
    → IfErr r (λ fault. ((length (chars text) ≤ 255) × (fault ≡ Memory)) ⊎ ((255 < length (chars text)) × (fault ≡ BadAtom term)))
    → IsAtomOf false bytes term r
IsAtomOf-latin_1 text bytes term (Ok t) same ok err =
    (short_passes (length bytes) (subst (λ (cs : List ℕ). length cs ≤ 255) same ok.0), ok.1 ∙ ap atom same)
IsAtomOf-latin_1 text bytes term (Err fault) same ok (inl memory) =
    inl (short_passes (length bytes) (subst (λ (cs : List ℕ). length cs ≤ 255) same memory.0), memory.1)
IsAtomOf-latin_1 text bytes term (Err fault) same ok (inr bad) =
    inr (long_fails (length bytes) (subst (λ (cs : List ℕ). 255 < length cs) same bad.0), bad.1)
