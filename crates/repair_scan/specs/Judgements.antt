-- How the open units of a file are judged one after another, from the lowest one up. This project's own.
use Rattle.std.specs.Prelude.{◌≡◌, ◌≤◌, ◌<◌, ℕ, ◌+◌, ◌^◌, List, [], ◌∷◌, ◌++◌, length, find, option_map, Ok, Err}
use Rattle.std.specs.List.{AllByRecursion}
use Rattle.term_model.specs.TermValue.{TermValue}
use Rattle.term_model.specs.IsTerm.{IsTerm}
use Rattle.etf_model.specs.Canonical.{canonical}
use Rattle.file_model.specs.Block.{Block, Standing}
use Rattle.file_model.specs.Taken.{block_has, entry_of}
use Rattle.repair_scan.specs.declared.judge.Judge.{Judge}
use Rattle.repair_scan.specs.declared.taken_keys.TakenKeys.{TakenKeys}
use Rattle.repair_scan.specs.TakenKeys.{unit_of}

-- each key has the unit of the taken block that has it
abbrev pub HasKeys : List Block → TakenKeys → Type 0
HasKeys below keys = (k : TermValue) → IsTerm k → unit_of keys (canonical k) ≡ option_map (λ b. b.unit) (find (block_has k) below)

-- ---- the last taken block

abbrev pub EndBy : ℕ → List Block → Type 0
EndBy u blocks = AllByRecursion (λ b. b.unit + 2 ^ b.exp ≤ u) blocks

-- taken blocks, the last one first, which end by the units of those behind them; it begins by this unit
abbrev pub IsLast : ℕ → ℕ → ℕ → List Block → Type 0
IsLast u last end [] = end ≡ 0
IsLast u last end (b ∷ bs) = (b.unit ≤ u) × (last ≡ b.unit) × (end ≡ b.unit + 2 ^ b.exp) × EndBy b.unit bs

-- ---- a judge, once the units below one were judged

-- what it knows of the blocks that were taken, the last one first
pub record Reflects (below : List Block) (u : ℕ) (j : Judge) : Type 0 where
  pub last : IsLast u j.last j.end below
  pub keys : HasKeys below j.keys

-- it has no more entries than there are units below this one, and its rejects are at such
pub record IsWithin (u : ℕ) (j : Judge) : Type 0 where
  pub entries : length j.entries ≤ u
  pub rejects : AllByRecursion (λ r. r.unit < u) j.rejects

-- one unit more, by the judgement on it
abbrev pub Judges : List Block → ℕ → Judge → Judge → Standing → Type 0
Judges below u old new (Ok b) = Reflects (b ∷ below) (u + 1) new × (new.entries ≡ old.entries ++ entry_of b ∷ []) × (new.rejects ≡ old.rejects)
Judges below u old new (Err reason) =
    Reflects below (u + 1) new × (new.entries ≡ old.entries) × (new.rejects ≡ old.rejects ++ record { unit = u; reason = reason } ∷ [])
