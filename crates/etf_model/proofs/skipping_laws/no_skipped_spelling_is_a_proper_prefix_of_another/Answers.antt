use Rattle.etf_model.specs.Skipping.{skipped}
use Rattle.etf_model.specs.Beginnings.{no_proper_prefix}
use Rattle.etf_model.specs.SkippingExact.{skipped-exact}
use Rattle.etf_model.proofs.skipping_laws.no_skipped_spelling_is_a_proper_prefix_of_another.Goals as goal

pub returns : goal.returns
returns c bytes rest s t = no_proper_prefix skipped skipped-exact tt tt bytes rest s t
