use Rattle.etf_model.specs.Skipping.{skipped}
use Rattle.etf_model.specs.SkippingExact.{skipped-exact}
use Rattle.etf_model.proofs.SpellingSharp.{skipped-sharp}
use Rattle.etf_model.proofs.Breaks.{one_break}
use Rattle.etf_model.proofs.skipping_laws.bytes_have_at_most_one_skip_break.Goals as goal

pub returns : goal.returns
returns c = one_break skipped skipped-exact skipped-sharp 0
