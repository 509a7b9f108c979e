-- What it means that a block is taken and that an open unit is rejected, said of one above the blocks that are taken below
-- it. This project's own.
use Rattle.std.specs.Prelude.{◌≡◌, ◌⊎◌, List, [], ◌∷◌, find, Some, None, Ok, Err}
use Rattle.file_model.specs.declared.reject.Reason.{Reason}
use Rattle.file_model.specs.declared.reject.Reason.TheVariants.{Overlaps, KeyTaken}
use Rattle.file_model.specs.Block.{Block, Standing}
use Rattle.file_model.specs.Taken.{covers, block_has}

-- no taken block below covers its unit, and none has its key
pub record IsTaken (below : List Block) (b : Block) : Type 0 where
  pub uncovered : find (covers b.unit) below ≡ None
  pub other_keys : find (block_has b.key) below ≡ None

-- some blocks by ascending unit, each above those in front of it and above these
abbrev pub AreTaken : List Block → List Block → Type 0
AreTaken [] below = Unit {0}
AreTaken (b ∷ bs) below = IsTaken below b × AreTaken bs (b ∷ below)

-- the first reason: that what stands there is no block, that a taken block covers its unit, or that one has its key
abbrev pub IsReason : List Block → Standing → Reason → Type 0
IsReason below (Err found) reason = reason ≡ found
IsReason below (Ok b) reason =
    ((other : Block) × (find (covers b.unit) below ≡ Some other) × (reason ≡ Overlaps other.unit))
    ⊎ ((other : Block) × (find (covers b.unit) below ≡ None) × (find (block_has b.key) below ≡ Some other) × (reason ≡ KeyTaken other.unit))
