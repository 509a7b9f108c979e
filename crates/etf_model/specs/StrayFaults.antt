-- Lemmas: no rule of a format that is put together is broken by a fault that no test tells, as want of memory, or a long
-- term.
use Rattle.std.proofs.Common.{◌≢◌, ℕ, Bool, List, inl, inr, sym}
use Rattle.etf_model.specs.declared.fault.EtfFault.{EtfFault}
use Rattle.etf_model.specs.declared.fault.EtfFault.TheVariants.{Memory, LongTerm}
use Rattle.etf_model.specs.Format.{Format, followed, tested}
use Rattle.etf_model.specs.Kept.{TellsOffset, IsKept}

-- no test tells it
pub record IsStray (stray : EtfFault) : Type 1 where
  pub untold : {A : Type 0} (fault : ℕ → A → EtfFault) → TellsOffset fault → (term : ℕ) (x : A) → fault term x ≢ stray

pub memory_is_stray : IsStray Memory
memory_is_stray = record { untold = λ fault tells. tells.not_memory }

pub long_is_stray : (at : ℕ) → IsStray (LongTerm at)
long_is_stray at = record { untold = λ fault tells term x. tells.not_long term x at }

-- no break is by it
pub record Lacks (stray : EtfFault) {A : Type 0} (F : Format A) : Type 0 where
  pub no_break : (term here : ℕ) (bytes : List ℕ) → F.Break term here bytes stray → ⊥

module _ (stray : EtfFault) (is_stray : IsStray stray) where
  followed-lacks : {A B : Type 0} (F : Format A) (G : A → Format B) → Lacks stray F → ((x : A) (front : List ℕ) → F.Whole x front → Lacks stray (G x))
      → (term here : ℕ) (bytes : List ℕ) → (followed F G).Break term here bytes stray → ⊥
  followed-lacks F G f g term here bytes (inl h) = f.no_break term here bytes h
  followed-lacks F G f g term here bytes (inr j) = (g j.value j.front j.first).no_break term _ j.rest j.second

  tested-lacks : {A : Type 0} (F : Format A) (test : A → Bool) (fault : ℕ → A → EtfFault) → TellsOffset fault → Lacks stray F
      → (term here : ℕ) (bytes : List ℕ) → (tested F test fault).Break term here bytes stray → ⊥
  tested-lacks F test fault tells f term here bytes (inl h) = f.no_break term here bytes h
  tested-lacks F test fault tells f term here bytes (inr (x, w, t, same)) = is_stray.untold fault tells term x (sym same)

  pub lacks-kept : IsKept (λ A F. Lacks stray F)
  lacks-kept = record {
    of_byte = record { no_break = λ term here bytes h. h };
    of_give = λ value. record { no_break = λ term here bytes h. h };
    of_followed = λ F G f g. record { no_break = followed-lacks F G f g };
    of_tested = λ F test fault tells some f. record { no_break = tested-lacks F test fault tells f };
    of_framed = λ F f. record { no_break = λ term here bytes h. f.no_break here here bytes h };
  }
