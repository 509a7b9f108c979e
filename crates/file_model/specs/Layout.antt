-- Where the parts of a table's file stand, in bytes from its front. This project's own.
--
-- A page is the header's. Behind it stand segments: one byte for the gate of each unit, and then the units. How many
-- units a segment has is a parameter here, per_segment; the header gives it (Header.antt).
use Rattle.std.specs.Prelude.{ℕ, ◌+◌, ◌-◌, ◌*◌, ◌/◌, ◌%◌, ◌^◌, Bool, true, false, ◌==◌, List, length, slice_index, slice_range}
use Rattle.space_model.specs.Sizes.{unit_size}

abbrev pub page_size : ℕ
page_size = 4096

-- ---- the header's page

-- where a copy begins, the first or the second, with its gate
abbrev pub copy_at : Bool → ℕ
copy_at false = 0
copy_at true = 512

-- its body
abbrev pub body_at : Bool → ℕ
body_at second = copy_at second + 16

abbrev pub body_size : ℕ
body_size = 32

-- ---- segments

abbrev pub segment_size : ℕ → ℕ
segment_size per_segment = (1 + unit_size) * per_segment

abbrev pub segment_at : ℕ → ℕ → ℕ
segment_at per_segment s = page_size + segment_size per_segment * s

-- the gate of a unit
abbrev pub gate_at : ℕ → ℕ → ℕ
gate_at per_segment u = segment_at per_segment (u / per_segment) + u % per_segment

-- a unit
abbrev pub unit_at : ℕ → ℕ → ℕ
unit_at per_segment u = segment_at per_segment (u / per_segment) + per_segment + unit_size * (u % per_segment)

-- the end of the segment of a unit
abbrev pub segment_end : ℕ → ℕ → ℕ
segment_end per_segment u = segment_at per_segment (u / per_segment + 1)

-- how many bytes a block of 2 ^ exp units has
abbrev pub run_size : ℕ → ℕ
run_size exp = unit_size * 2 ^ exp

-- ---- what stands in an image of a file

-- An open gate is this byte. Every other one is closed; writers close gates with 0.
abbrev pub open_byte : ℕ
open_byte = 165

abbrev pub closed_byte : ℕ
closed_byte = 0

abbrev pub is_open_at : List ℕ → ℕ → Bool
is_open_at image at = slice_index image at == open_byte

-- the header's page
abbrev pub page_of : List ℕ → List ℕ
page_of image = slice_range image 0 page_size

-- the bytes from a unit to the end of its segment
abbrev pub unit_bytes : ℕ → List ℕ → ℕ → List ℕ
unit_bytes per_segment image u = slice_range image (unit_at per_segment u) (segment_end per_segment u)

-- how many segments lie wholly in a file of so many bytes, and in an image
abbrev pub segments_within : ℕ → ℕ → ℕ
segments_within per_segment size = (size - page_size) / segment_size per_segment

abbrev pub whole_segments : ℕ → List ℕ → ℕ
whole_segments per_segment image = segments_within per_segment (length image)
