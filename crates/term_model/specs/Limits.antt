-- Lemmas: a term within its limits is built, so want of memory alone is left as a fault.
use Rattle.std.proofs.Common.{◌≡◌, ℕ, ◌<◌, ◌≤◌, ◌^◌, cond, nat_le, Result, Ok, Err, IfErr, IsErrOf, ◌⊎◌, ◌↔◌, inl, inr, ap, ◌∙◌, sym, subst, arith}
use Rattle.std.proofs.lemmas.Bool.{lt-ltb, le-leb}
use Rattle.term_model.specs.declared.term_fault.TermFault.{TermFault}
use Rattle.term_model.specs.declared.term_fault.TermFault.TheVariants.{Depth, LongAtom, ManyParts, Memory}
use Rattle.term_model.specs.TermValue.{TermValue, depth}
use Rattle.term_model.specs.IsTerm.{built}

pub built-within : (parts : ℕ) (t : TermValue) → parts < 2 ^ 32 → depth t ≤ 256 → built parts t ≡ Ok t
built-within parts t few shallow =
    ap (λ b. cond b (cond (nat_le (depth t) 256) (Ok t) (Err Depth)) (Err ManyParts)) (lt-ltb parts (2 ^ 32) few)
    ∙ ap (λ b. cond b (Ok t) (Err Depth)) (le-leb (depth t) 256 shallow)

pub built_or_memory : (parts : ℕ) (t : TermValue) (r : Result TermValue TermFault) → parts < 2 ^ 32 → depth t ≤ 256 → r ≡ built parts t
    → IfErr r (λ fault. fault ≡ Memory)
built_or_memory parts t r few shallow e =
    subst (λ (q : Result TermValue TermFault). IfErr q (λ fault. fault ≡ Memory)) (sym (e ∙ built-within parts t few shallow)) tt

-- an answer of building an atom of so many characters
pub atom_or_memory : (r : Result TermValue TermFault) (count : ℕ) → count ≤ 255 → (IsErrOf r LongAtom ↔ (255 < count))
    → IfErr r (λ fault. (fault ≡ LongAtom) ⊎ (fault ≡ Memory)) → IfErr r (λ fault. fault ≡ Memory)
atom_or_memory (Ok t) count short long faults = tt
atom_or_memory (Err fault) count short long (inl e) = let far : 255 < count = long.0 (ap Err e) in absurd (omega arith)
atom_or_memory (Err fault) count short long (inr e) = e
