-- What reading a spelling says of the bytes.
use Rattle.std.proofs.Common.{◌≡◌, ℕ, ◌+◌, ◌⊎◌, List, Result, Ok, Err, refl, ap, sym, ◌∙◌, subst, inl, inr, arith}
use Rattle.std.specs.Result.{IsErrAnd}
use Rattle.dets_term.specs.TermValue.{TermValue}
use Rattle.etf_model.specs.declared.fault.EtfFault.{EtfFault}
use Rattle.etf_model.specs.declared.fault.EtfFault.TheVariants.{LongTerm, Memory}
use Rattle.etf_model.specs.Decoding.{IsDecoding}
use Rattle.etf_model.specs.Format.{Position}
use Rattle.etf_model.specs.Spelling.{spelling}
use Rattle.etf_model.specs.SpellingExact.{spelling-exact, spelling_lacks_long}
use Rattle.etf_codec.specs.declared.term_reader.TermReader.{TermReader}
use Rattle.etf_codec.specs.TermReader.{IsFresh, reads_next, reads_on}
use Rattle.etf_codec.proofs.Answering.{front_read, fault_read}

-- a reader that has read nothing reads a spelling
pub reads_fresh : (reader : TermReader) (position : Position) → IsFresh reader → reads_on reader position ≡ spelling.read position.offset position
reads_fresh reader position fresh = ap (λ stage. reads_next stage reader.begun.items position) fresh.0

module _ (bytes : List ℕ) (reader : TermReader) (fresh : IsFresh reader) (start : Position) (front : start ≡ record { offset = 0; left = bytes }) where
  from_front : reads_on reader start ≡ spelling.read 0 (record { offset = 0; left = bytes })
  from_front = reads_fresh reader start fresh ∙ ap (λ (p : Position). spelling.read p.offset p) front

  -- a term that was read, and the offset behind it
  pub decoded : (behind : Position) (t : TermValue) (n : ℕ) → reads_on reader start ≡ Ok (t, behind) → n ≡ behind.offset → IsDecoding bytes (Ok (t, n))
  decoded behind t n e count =
      let size : behind.offset ≡ 0 + n = omega arith in
      front_read spelling spelling-exact 0 (record { offset = 0; left = bytes }) behind t n refl size (sym from_front ∙ e)

  -- a fault, or want of memory
  pub not_decoded : (answer : Result (TermValue × ℕ) EtfFault) (fault : EtfFault) → IsErrAnd answer (λ y. y ≡ fault)
      → (fault ≡ Memory) ⊎ (reads_on reader start ≡ Err fault) → IsDecoding bytes answer
  not_decoded (Ok t) fault h e = absurd h
  not_decoded (Err y) fault h (inl memory) = subst (λ f. IsDecoding bytes (Err f)) (sym (h ∙ memory)) tt
  not_decoded (Err y) fault h (inr e) = subst (λ f. IsDecoding bytes (Err f)) (sym h) (fault_read spelling spelling-exact 0 bytes fault (sym from_front ∙ e))

-- no decoding says that a term is too long
pub decoding_not_long : (bytes : List ℕ) (answer : Result (TermValue × ℕ) EtfFault) → IsDecoding bytes answer
    → (at : ℕ) → answer ≡ Err (LongTerm at) → ⊥
decoding_not_long bytes answer d at e =
    let long = subst (IsDecoding bytes) e d in
    (spelling_lacks_long at).no_break 0 0 long.front long.holds
