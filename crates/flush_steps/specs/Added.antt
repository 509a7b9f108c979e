-- Segments that come to a file. This project's own.
use Rattle.std.specs.Prelude.{ℕ, ◌*◌, ◌-◌, List, [], ◌∷◌}
use Rattle.host_model.specs.Disk.{Range, range}
use Rattle.file_model.specs.Layout.{segment_at, segment_size}

-- the range of the segments from one number to another
abbrev pub added : ℕ → ℕ → ℕ → List Range
added per_segment from to = range (segment_at per_segment from) (segment_size per_segment * (to - from)) ∷ []
