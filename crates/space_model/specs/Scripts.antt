-- Ledgers one after the other, as worked rows write them.
use Prim.Native.String.{String}
use Rattle.std.specs.Prelude.{ℕ, List, [], ◌∷◌, codes, map, Option, Some, None, option_map}
use Rattle.space_model.specs.Runs.{run}
use Rattle.space_model.specs.Ledger.{Ledger, Touch, made, after_command, flush}

-- a key gets a payload of so many bytes, or none
abbrev pub gets : String → ℕ → Touch
gets key bytes = record { key = codes key; bytes = Some bytes }

abbrev pub loses : String → Touch
loses key = record { key = codes key; bytes = None }

-- some commands one after the other, each of one touched key, in segments of 16 units
abbrev pub after_each : Ledger → List Touch → Ledger
after_each l [] = l
after_each l (t ∷ ts) = after_each (after_command 16 l (t ∷ [])) ts

-- and a flush behind them
abbrev pub flushed_after : Ledger → List Touch → Ledger
flushed_after l touches = flush (after_each l touches)

-- a ledger in which keys wait with payloads of so many bytes, or with none
abbrev pub waits : List (Option ℕ) → Ledger
waits sizes = record (made 1) {
  pending = map (λ size. record { key = []; packed = option_map (λ bytes. record { bytes = bytes; run = run 0 12 }) size }) sizes;
}
