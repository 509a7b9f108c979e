-- A block's head as a pair of numbers. This project's own.
use Rattle.std.specs.Prelude.{ℕ}
use Rattle.file_model.specs.Block.{BlockHead}

-- the exponent and the length of the payload
abbrev pub head_of_pair : ℕ × ℕ → BlockHead
head_of_pair p = record { exp = p.0; count = p.1 }
