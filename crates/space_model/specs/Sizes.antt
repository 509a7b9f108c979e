-- How many bytes a unit has, and the head of a block in front of its payload, and how many units a segment has. This
-- project's own.
use Rattle.std.specs.Prelude.{ℕ}

abbrev pub unit_size : ℕ
unit_size = 64

abbrev pub head_size : ℕ
head_size = 8

abbrev pub segment_units : ℕ
segment_units = 4096
