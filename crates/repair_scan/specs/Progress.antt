-- How far the units of a file were judged, and which bytes show them. This project's own.
use Rattle.std.specs.Prelude.{◌≡◌, ◌≤◌, ◌<◌, ℕ, ◌+◌, ◌-◌, ◌*◌, ◌==◌, List, [], ◌++◌, map, drop, slice_index}
use Rattle.space_model.specs.Sizes.{unit_size, segment_units}
use Rattle.file_model.specs.declared.head.Head.{Head}
use Rattle.file_model.specs.Layout.{gate_at, open_byte, is_open_at}
use Rattle.file_model.specs.Block.{Block, standing, stands_at}
use Rattle.file_model.specs.View.{Units, OpenUnit, open_from}
use Rattle.file_model.specs.Taken.{taken_above, rejects_above, entry_of}
use Rattle.repair_scan.specs.declared.judge.Judge.{Judge}
use Rattle.repair_scan.specs.Judgements.{Reflects}

-- the units of so many segments of an image
abbrev pub units_with : Head → ℕ → List ℕ → Units
units_with h segments image = record {
  count = segment_units * segments;
  is_open = λ u. is_open_at image (gate_at segment_units u);
  stands = λ u. stands_at segment_units h.kind h.keypos image u;
}

-- the open units from one on
abbrev pub open_behind : Units → ℕ → List OpenUnit
open_behind v u = open_from v.is_open v.stands (v.count - u) u

-- The units below one were judged: what was found, and then what the units from there on give above the blocks that were
-- taken, is all that the units give.
pub record IsJudgedTo (v : Units) (u : ℕ) (j : Judge) : Type 0 where
  pub below : List Block
  pub reflects : Reflects below u j
  pub entries : map entry_of (taken_above (open_behind v 0) []) ≡ j.entries ++ map entry_of (taken_above (open_behind v u) below)
  pub rejects : rejects_above (open_behind v 0) [] ≡ j.rejects ++ rejects_above (open_behind v u) below

-- a unit, by its gate and, where that is open, by the bytes from it to the end of its segment
pub record ShowsUnit (v : Units) (h : Head) (u gate : ℕ) (bytes : List ℕ) : Type 0 where
  pub inside : u < v.count
  pub gate_is : v.is_open u ≡ (gate == open_byte)
  pub behind : gate ≡ open_byte → v.stands u ≡ standing segment_units h.kind h.keypos u bytes

-- the units of a segment, by its gates and units
pub record ShowsSegment (v : Units) (h : Head) (segment : ℕ) (gates units : List ℕ) : Type 0 where
  pub inside : segment_units * (segment + 1) ≤ v.count
  pub gate_is : (i : ℕ) → i < segment_units → v.is_open (segment_units * segment + i) ≡ (slice_index gates i == open_byte)
  pub behind : (i : ℕ) → i < segment_units → slice_index gates i ≡ open_byte
      → v.stands (segment_units * segment + i)
      ≡ standing segment_units h.kind h.keypos (segment_units * segment + i) (drop (unit_size * i) units)
