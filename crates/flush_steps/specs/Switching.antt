-- While the gates of new blocks are opened, and those of the blocks that go are closed. This project's own.
use Rattle.std.specs.Prelude.{◌⊎◌, ℕ, List}
use Rattle.host_model.specs.Disk.{DiffersIn}
use Rattle.host_model.specs.Writes.{ranges_of, with_writes}
use Rattle.file_model.specs.Layout.{open_byte, closed_byte}
use Rattle.file_model.specs.GateWrites.{gate_writes}

-- these gates are open
abbrev pub with_open : ℕ → List ℕ → List ℕ → List ℕ
with_open per_segment us file = with_writes (gate_writes per_segment open_byte us) file

-- and then those are closed
abbrev pub switched : ℕ → List ℕ → List ℕ → List ℕ → List ℕ
switched per_segment us olds file = with_writes (gate_writes per_segment closed_byte olds) (with_open per_segment us file)

-- At any moment of this gates of one of the two steps are in doubt, over the file as the first step made it.
abbrev pub IsSwitching : ℕ → List ℕ → List ℕ → (old now : List ℕ) → Type 0
IsSwitching per_segment us olds old now =
    DiffersIn (ranges_of (gate_writes per_segment open_byte us)) old now
    ⊎ DiffersIn (ranges_of (gate_writes per_segment closed_byte olds)) (with_open per_segment us old) now
