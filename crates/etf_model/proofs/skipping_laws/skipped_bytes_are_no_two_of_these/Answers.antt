use Rattle.etf_model.specs.Skipping.{skipped}
use Rattle.etf_model.specs.Beginnings.{whole_or_break, whole_or_part, break_or_part}
use Rattle.etf_model.specs.SkippingExact.{skipped-exact}
use Rattle.etf_model.proofs.skipping_laws.skipped_bytes_are_no_two_of_these.Goals as goal

pub returns-clause-spelling_or_break : goal.returns-clause-spelling_or_break
returns-clause-spelling_or_break c bytes s b = whole_or_break skipped skipped-exact 0 bytes (tt, s) b

pub returns-clause-spelling_or_part : goal.returns-clause-spelling_or_part
returns-clause-spelling_or_part c bytes s p = whole_or_part skipped skipped-exact bytes (tt, s) p

pub returns-clause-break_or_part : goal.returns-clause-break_or_part
returns-clause-break_or_part c bytes b p = break_or_part skipped skipped-exact 0 bytes b p
