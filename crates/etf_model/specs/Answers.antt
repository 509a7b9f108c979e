-- What is answered to some bytes that begin at an offset, by a format.
use Rattle.std.specs.Prelude.{ℕ, ◌≤◌, List, take, length, Result, Ok, Err}
use Rattle.etf_model.specs.declared.fault.EtfFault.{EtfFault}
use Rattle.etf_model.specs.declared.fault.EtfFault.TheVariants.{Short, Memory}
use Rattle.etf_model.specs.Format.{Format}
use Rattle.etf_model.specs.Fronts.{Begins}

-- a value and its number of bytes: so many bytes in front are that value's
pub record IsFront {A : Type 0} (F : Format A) (bytes : List ℕ) (value : A) (count : ℕ) : Type 0 where
  pub fits : count ≤ length bytes
  pub whole : F.Whole value (take count bytes)

-- A value with its number of bytes where they stand in front, Short where the bytes end too early, any other fault where
-- a front breaks a rule with its last byte. Memory is free.
abbrev pub Answers : {A : Type 0} → Format A → ℕ → List ℕ → Result (A × ℕ) EtfFault → Type 0
Answers F start bytes (Ok r) = IsFront F bytes r.0 r.1
Answers F start bytes (Err Short) = F.Part bytes
Answers F start bytes (Err Memory) = Unit {0}
Answers F start bytes (Err fault) = Begins (λ front. F.Break start start front fault) bytes
