-- When the reading of a format agrees with its relations.
use Rattle.std.specs.Prelude.{◌≡◌, ◌≢◌, ℕ, ◌+◌, List, ◌++◌, length, Ok, Err}
use Rattle.etf_model.specs.declared.fault.EtfFault.{EtfFault}
use Rattle.etf_model.specs.declared.fault.EtfFault.TheVariants.{Short}
use Rattle.etf_model.specs.Format.{Format, Position}
use Rattle.etf_model.specs.Fronts.{Begins}

-- the bytes between two positions
pub record Between (P : List ℕ → Type 0) (before behind : Position) : Type 0 where
  pub front : List ℕ
  pub holds : P front
  pub bytes : before.left ≡ front ++ behind.left
  pub offset : behind.offset ≡ before.offset + length front

-- Each answer of reading is one that the relations give, and each relation gives its answer, whatever follows.
pub record IsExact {A : Type 0} (F : Format A) : Type 0 where
  pub read_whole : (term : ℕ) (position : Position) (x : A) (behind : Position) → F.read term position ≡ Ok (x, behind) → Between (F.Whole x) position behind
  pub read_part : (term : ℕ) (position : Position) → F.read term position ≡ Err Short → F.Part position.left
  pub read_break : (term : ℕ) (position : Position) (fault : EtfFault) → F.read term position ≡ Err fault → fault ≢ Short
      → Begins (λ front. F.Break term position.offset front fault) position.left
  pub whole_read : (term here : ℕ) (x : A) (front rest : List ℕ) → F.Whole x front
      → F.read term (record { offset = here; left = front ++ rest }) ≡ Ok (x, record { offset = here + length front; left = rest })
  pub part_read : (term here : ℕ) (bytes : List ℕ) → F.Part bytes → F.read term (record { offset = here; left = bytes }) ≡ Err Short
  pub break_read : (term here : ℕ) (front rest : List ℕ) (fault : EtfFault) → F.Break term here front fault
      → F.read term (record { offset = here; left = front ++ rest }) ≡ Err fault
  -- a break is no end of the bytes
  pub break_fault : (term here : ℕ) (bytes : List ℕ) (fault : EtfFault) → F.Break term here bytes fault → fault ≢ Short
