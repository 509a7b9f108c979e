-- A source in memory, as contracts see it. All of it is this project's own.
use Rattle.std.specs.Prelude.{ℕ, Bool, false, ◌||◌, ◌==◌, List, drop, Option, Some}
use Rattle.host_model.specs.Counts.{following, raised}
use Rattle.host_model.specs.Source.{Stream}

pub record MemSourceState : Type 0 where
  pub left : List ℕ
  pub ended : Bool
  pub faults : ℕ
  -- how many bytes a read gives at most
  pub most : ℕ
  -- the numbers of the reads that fail, counted from 0
  pub fail : List ℕ
  -- the number of the next read; none once each number of 64 bits was used
  pub next_read : Option ℕ

-- a new source of these bytes
abbrev pub fresh_source : List ℕ → ℕ → List ℕ → MemSourceState
fresh_source bytes limit listed =
    record { left = bytes; ended = false; faults = 0; most = limit; fail = listed; next_read = Some 0 }

-- what it tells: all of its stream
abbrev pub told_of : MemSourceState → Option Stream
told_of s = Some (record { left = s.left; ended = s.ended })

-- the source after a read that gave n bytes
abbrev pub source_after_read : ℕ → MemSourceState → MemSourceState
source_after_read n s = record s { left = drop n s.left; ended = s.ended || (n == 0); next_read = following s.next_read }

-- the source after a read that failed
abbrev pub source_after_fault : MemSourceState → MemSourceState
source_after_fault s = record s { faults = raised s.faults; next_read = following s.next_read }
