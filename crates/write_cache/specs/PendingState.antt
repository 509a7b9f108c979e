-- A pending state: how long its block is, and what the ledger knows of it. This project's own.
use Rattle.std.specs.Prelude.{ℕ, ◌-◌, ◌≤◌, List, length, Option, Some, None, option_map, IfSome}
use Rattle.space_model.specs.Runs.{run}
use Rattle.space_model.specs.Sizes.{head_size}
use Rattle.space_model.specs.Ledger.{Packed as Payload, Pending as LedgerPending}
use Rattle.file_model.specs.declared.block.Packed.{Packed}
use Rattle.write_cache.specs.declared.pending.Pending.{Pending}

abbrev pub length_of : Option Packed → ℕ
length_of None = 0
length_of (Some p) = length p.block

-- the bytes of the block, with its head, 0 where there is none
abbrev pub block_length : Pending → ℕ
block_length s = length_of s.block

-- the same of the state that a key had, if it had one
abbrev pub old_length : Option Pending → ℕ
old_length None = 0
old_length (Some s) = block_length s

-- ---- what the ledger knows

-- the payload of a block from a unit on, and its run
abbrev pub payload_at : ℕ → Packed → Payload
payload_at unit p = record { bytes = length p.block - head_size; run = run unit p.exp }

abbrev pub in_ledger : List ℕ → Pending → LedgerPending
in_ledger key s = record { key = key; packed = option_map (payload_at s.unit) s.block }

-- a block begins with a whole head
abbrev pub HasHead : Pending → Type 0
HasHead s = IfSome s.block (λ p. head_size ≤ length p.block)
