-- When a rule of a format is broken by the byte at which the break ends, and no earlier.
use Rattle.std.specs.Prelude.{◌≡◌, ℕ, ◌⊎◌, List, []}
use Rattle.etf_model.specs.declared.fault.EtfFault.{EtfFault}
use Rattle.etf_model.specs.Format.{Format}
use Rattle.etf_model.specs.Fronts.{OneMore}

-- Without its last byte a break is a part, and so is what is whole and not empty.
pub record IsSharp {A : Type 0} (F : Format A) : Type 0 where
  pub break_sharp : (term here : ℕ) (bytes : List ℕ) (fault : EtfFault) → F.Break term here bytes fault → OneMore F.Part bytes
  pub whole_sharp : (x : A) (bytes : List ℕ) → F.Whole x bytes → (bytes ≡ []) ⊎ OneMore F.Part bytes

-- no value of a format is whole without any byte
abbrev pub HasBytes : {A : Type 0} → Format A → Type 0
HasBytes {A} F = (x : A) (bytes : List ℕ) → F.Whole x bytes → bytes ≡ [] → ⊥
