-- Standard input, as contracts see it. All of it is this project's own.
use Rattle.std.specs.Prelude.{ℕ, List, Option}

pub record StdSourceState : Type 0 where
  -- what its reader has left, where the reader tells that
  pub left : Option (List ℕ)
  pub faults : ℕ
