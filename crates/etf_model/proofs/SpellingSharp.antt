-- The last byte of a break is the first to break a rule, and the breaks of a spelling move with the offset at which it
-- begins.
use Rattle.etf_model.specs.Sharp.{IsSharp}
use Rattle.etf_model.specs.Skipping.{skipped}
use Rattle.etf_model.specs.Spelling.{spelling}
use Rattle.etf_model.specs.SkippingKept.{skipped-kept}
use Rattle.etf_model.specs.SpellingKept.{tag_tells, depth_tells, spelling-kept}
use Rattle.etf_model.proofs.Moving.{IsMoving, moving-kept}
use Rattle.etf_model.proofs.Sharpness.{sharp-kept}

pub spelling-sharp : IsSharp spelling
spelling-sharp = spelling-kept (λ A F. IsSharp F) sharp-kept

pub spelling-moving : IsMoving spelling
spelling-moving = spelling-kept (λ A F. IsMoving F) moving-kept

pub skipped-sharp : IsSharp skipped
skipped-sharp = skipped-kept (λ A F. IsSharp F) sharp-kept tag_tells depth_tells
