-- The keys of taken blocks, as they are kept. This project's own.
use Rattle.std.specs.Prelude.{◌≡◌, ◌≤◌, ℕ, cond, List, length, Option, Some, None, nat_eq}
use Rattle.std.specs.List.{slice_range}
use Rattle.std.specs.HashMap.{get, get_by}
use Rattle.std.specs.Str.{bytes_eq}
use Rattle.repair_scan.specs.declared.taken_keys.Kept.{Kept}
use Rattle.repair_scan.specs.declared.taken_keys.TakenKeys.{TakenKeys}
use Rattle.repair_scan.specs.KeyHash.{hash_behind}

-- the unit of a key that is not the first of its hash
abbrev pub other_unit : TakenKeys → List ℕ → Option ℕ
other_unit keys bytes = get_by (λ k. bytes_eq bytes k.items) keys.others

-- by the first key of its hash
abbrev pub unit_by : TakenKeys → List ℕ → Option Kept → Option ℕ
unit_by keys bytes None = None
unit_by keys bytes (Some kept) =
    cond (bytes_eq bytes (slice_range keys.spellings.items kept.from kept.end)) (Some kept.unit) (other_unit keys bytes)

-- the unit of a key with this spelling
abbrev pub unit_of : TakenKeys → List ℕ → Option ℕ
unit_of keys bytes = unit_by keys bytes (get nat_eq keys.first (hash_behind bytes))

-- each first key has its spelling there, and no other key has a hash without a first one
pub record AreKept (keys : TakenKeys) : Type 0 where
  pub within : (hash : ℕ) (kept : Kept) → get nat_eq keys.first hash ≡ Some kept → (kept.from ≤ kept.end) × (kept.end ≤ length keys.spellings.items)
  pub behind : (bytes : List ℕ) → get nat_eq keys.first (hash_behind bytes) ≡ None → other_unit keys bytes ≡ None
