-- What a source tells, and what a read does to it. All of it is this project's own.
use Rattle.std.specs.Prelude.{ℕ, Bool, ◌||◌, ◌==◌, List, drop}

-- the bytes that reads will give from here on, and whether a read has answered 0
pub record Stream : Type 0 where
  pub left : List ℕ
  pub ended : Bool

-- the stream after a read that gave n bytes
abbrev pub after_read : ℕ → Stream → Stream
after_read n s = record { left = drop n s.left; ended = s.ended || (n == 0) }
