-- Lemmas: the reading of what is passed over agrees with its relations, and its breaks are of two faults.
use Rattle.std.proofs.Common.{◌≡◌, ℕ, Bool, List, Err, inl, inr, sym, subst}
use Rattle.etf_model.specs.declared.fault.EtfFault.{EtfFault}
use Rattle.etf_model.specs.declared.fault.EtfFault.TheVariants.{Memory}
use Rattle.etf_model.specs.Format.{Format, Position, followed, tested}
use Rattle.etf_model.specs.Skipping.{skipped, IsSkipFault}
use Rattle.etf_model.specs.Exact.{IsExact}
use Rattle.etf_model.specs.Kept.{IsKeptWhere}
use Rattle.etf_model.specs.Exactness.{exact-kept}
use Rattle.etf_model.specs.SpellingKept.{tag_tells, depth_tells}
use Rattle.etf_model.specs.SkippingKept.{skipped-kept}

pub skipped-exact : IsExact skipped
skipped-exact = skipped-kept (λ A F. IsExact F) exact-kept tag_tells depth_tells

-- ---- its faults

record TellsSkipFault {A : Type 0} (F : Format A) : Type 0 where
  break_told : (term here : ℕ) (bytes : List ℕ) (fault : EtfFault) → F.Break term here bytes fault → IsSkipFault fault

followed-told : {A B : Type 0} (F : Format A) (G : A → Format B) → TellsSkipFault F
    → ((x : A) (front : List ℕ) → F.Whole x front → TellsSkipFault (G x))
    → (term here : ℕ) (bytes : List ℕ) (fault : EtfFault) → (followed F G).Break term here bytes fault → IsSkipFault fault
followed-told F G f g term here bytes fault (inl h) = f.break_told term here bytes fault h
followed-told F G f g term here bytes fault (inr j) = (g j.value j.front j.first).break_told term _ j.rest fault j.second

tested-told : {A : Type 0} (F : Format A) (test : A → Bool) (fault : ℕ → A → EtfFault)
    → ((term : ℕ) (x : A) → IsSkipFault (fault term x)) → TellsSkipFault F
    → (term here : ℕ) (bytes : List ℕ) (why : EtfFault) → (tested F test fault).Break term here bytes why → IsSkipFault why
tested-told F test fault told f term here bytes why (inl h) = f.break_told term here bytes why h
tested-told F test fault told f term here bytes why (inr (x, w, t, same)) = subst IsSkipFault (sym same) (told term x)

told-kept : IsKeptWhere (λ A fault. (term : ℕ) (x : A) → IsSkipFault (fault term x)) (λ A F. TellsSkipFault F)
told-kept = record {
  of_byte = record { break_told = λ term here bytes fault h. absurd h };
  of_give = λ value. record { break_told = λ term here bytes fault h. absurd h };
  of_followed = λ F G f g. record { break_told = followed-told F G f g };
  of_tested = λ F test fault told some f. record { break_told = tested-told F test fault told f };
  of_framed = λ F f. record { break_told = λ term here bytes fault h. f.break_told here here bytes fault h };
}

skipped-told : TellsSkipFault skipped
skipped-told = skipped-kept (λ A F. TellsSkipFault F) told-kept (λ term x. tt) (λ term x. tt)

pub skip_break-told : (term here : ℕ) (bytes : List ℕ) (fault : EtfFault) → skipped.Break term here bytes fault → IsSkipFault fault
skip_break-told term here bytes fault h = skipped-told.break_told term here bytes fault h

-- reading what is passed over needs no memory
pub skipped_needs_no_memory : (term : ℕ) (position : Position) → skipped.read term position ≡ Err Memory → ⊥
skipped_needs_no_memory term position e =
    let b = skipped-exact.read_break term position Memory e (λ same. cc) in
    skip_break-told term position.offset b.front Memory b.holds
