use Rattle.std.proofs.Common.{◌≡◌, ℕ, List, Result, Ok, Err, refl, ap, sym, ◌∙◌, subst, arith}
use Rattle.std.specs.Result.{IsErrAnd, IfErr}
use Rattle.etf_model.specs.declared.fault.EtfFault.{EtfFault}
use Rattle.etf_model.specs.declared.fault.EtfFault.TheVariants.{Short, NotVersion, Unsupported, Compressed, IntegerRange, BadAtom, BadBits, RepeatedKey, Depth}
use Rattle.etf_model.specs.declared.fault.EtfFault.TheVariants.{LongTerm, Memory}
use Rattle.etf_model.specs.Format.{Position}
use Rattle.etf_model.specs.Answers.{IsFront}
use Rattle.etf_model.specs.Skipping.{skipped, SkipsBy, IsSkipFault}
use Rattle.etf_model.specs.SkippingExact.{skipped-exact, skip_break-told, skipped_needs_no_memory}
use Rattle.etf_codec.proofs.Answering.{front_read, fault_read}
use Rattle.etf_codec.proofs.skipping.skip.Goals as goal

refused : (bytes : List ℕ) (fault : EtfFault) → skipped.read 0 (record { offset = 0; left = bytes }) ≡ Err fault → SkipsBy bytes (Err fault)
refused bytes fault e = (
  λ want. skipped_needs_no_memory 0 (record { offset = 0; left = bytes }) (e ∙ ap Err want),
  fault_read skipped skipped-exact 0 bytes fault e,
)

answered : (bytes : List ℕ) (position : Position) (fault : EtfFault) (answer : Result ℕ EtfFault) → position ≡ record { offset = 0; left = bytes }
    → IsErrAnd answer (λ y. y ≡ fault) → skipped.read 0 position ≡ Err fault → SkipsBy bytes answer
answered bytes position fault (Ok count) begins h e = absurd h
answered bytes position fault (Err why) begins h e = refused bytes why (ap (skipped.read 0) (sym begins) ∙ e ∙ ap Err (sym h))

pub returns-in_err-skip_term-clause-skips : goal.returns-in_err-skip_term-clause-skips
returns-in_err-skip_term-clause-skips c =
    answered c.args.bytes.now c.new-cursor.result _ c.from_residual.result c.new-cursor.ensures c.from_residual.ensures.1
    (c.in_err-skip_term.ensures 0)

-- each fault is one of three
told : (bytes : List ℕ) (fault : EtfFault) → SkipsBy bytes (Err fault) → IsSkipFault fault
told bytes Short (n, h) = tt
told bytes Memory (n, h) = n refl
told bytes (NotVersion at) (n, h) = skip_break-told 0 0 h.front (NotVersion at) h.holds
told bytes (Unsupported at tag) (n, h) = tt
told bytes (Compressed at) (n, h) = skip_break-told 0 0 h.front (Compressed at) h.holds
told bytes (IntegerRange at) (n, h) = skip_break-told 0 0 h.front (IntegerRange at) h.holds
told bytes (BadAtom at) (n, h) = skip_break-told 0 0 h.front (BadAtom at) h.holds
told bytes (BadBits at) (n, h) = skip_break-told 0 0 h.front (BadBits at) h.holds
told bytes (RepeatedKey at) (n, h) = skip_break-told 0 0 h.front (RepeatedKey at) h.holds
told bytes (Depth at) (n, h) = tt
told bytes (LongTerm at) (n, h) = skip_break-told 0 0 h.front (LongTerm at) h.holds

told_answer : (bytes : List ℕ) (answer : Result ℕ EtfFault) → SkipsBy bytes answer → IfErr answer IsSkipFault
told_answer bytes (Ok count) h = tt
told_answer bytes (Err fault) h = told bytes fault h

pub returns-in_err-skip_term-clause-faults : goal.returns-in_err-skip_term-clause-faults
returns-in_err-skip_term-clause-faults c = told_answer c.args.bytes.now _ (returns-in_err-skip_term-clause-skips c)

pub returns-clause-skips : goal.returns-clause-skips
returns-clause-skips c =
    subst (λ (p : Position). IsFront skipped p.left tt c.offset.result) c.new-cursor.ensures
    (front_read skipped skipped-exact 0 c.new-cursor.result c.skip_term.new.cursor tt c.offset.result (ap (λ (p : Position). p.offset) c.new-cursor.ensures)
    (sym c.offset.ensures ∙ omega arith) (c.in_ok-skip_term.ensures 0))
