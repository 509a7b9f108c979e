-- What the bytes of a stream mean to one who takes terms from their front. This project's own.
use Rattle.std.specs.Prelude.{ℕ, Bool, List}
use Rattle.dets_term.specs.TermValue.{TermValue}

-- what stands behind the last term, the faults being of this type
pub data Behind (F : Type 0) : Type 0 where
  -- more may come, and no rule is broken
  goes_on : Behind F
  -- nothing, and no more comes
  ends : Behind F
  -- a rule is broken
  breaks : F → Behind F

-- what stands in front of some bytes
pub data InFront (F : Type 0) : Type 0 where
  -- a term, and the number of its bytes
  a_term : TermValue → ℕ → InFront F
  no_term : Behind F → InFront F

pub record Meaning (F : Type 0) : Type 1 where
  -- What stands in front of bytes that begin at an offset. Whether the input ends behind them is told.
  pub Stands : (finished : Bool) (start : ℕ) (bytes : List ℕ) → InFront F → Type 0
  -- the fault that says nothing of the bytes: there was no memory
  pub memory : F
