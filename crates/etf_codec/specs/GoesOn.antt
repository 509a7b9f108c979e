-- When what is read at one position goes on at a later one. This project's own.
use Rattle.std.specs.Prelude.{◌≡◌, List, ◌++◌, ℕ}
use Rattle.etf_model.specs.Exact.{Between}
use Rattle.etf_model.specs.Format.{Position, Reading}

-- Reading in one way at a position is reading in another way behind some bytes, whatever follows them.
abbrev pub GoesOn : {A : Type 0} (R S : Position → Reading A) (before behind : Position) → Type 0
GoesOn R S before behind =
    Between (λ front. (more : List ℕ) → R (record { offset = before.offset; left = front ++ more }) ≡ S (record { offset = behind.offset; left = more })) before
    behind
