-- What is known of a block that stands at a unit. This project's own.
use Rattle.std.specs.Prelude.{◌≡◌, ◌≤◌, ℕ, ◌%◌, ◌^◌, Some}
use Rattle.term_model.specs.declared.kind.Kind.{Kind}
use Rattle.file_model.specs.Block.{Block, one_key}

-- It is no larger than a segment and aligned, and holds objects that the kind allows for its key.
pub record StandsAligned (per_segment : ℕ) (kind : Kind) (keypos at : ℕ) (b : Block) : Type 0 where
  pub unit : b.unit ≡ at
  pub key : one_key kind keypos b.objects ≡ Some b.key
  pub aligned : at % 2 ^ b.exp ≡ 0
  pub fits : 2 ^ b.exp ≤ per_segment
