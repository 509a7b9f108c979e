use Rattle.std.proofs.Common.{ap, ◌∙◌}
use Rattle.slot_table.specs.BySlot.{entries_in}
use Rattle.slot_table.proofs.Keeping.{none_in_replicate, kept_none}
use Rattle.slot_table.proofs.directory.Directory.new.Goals as goal

pub invariant_of-result : goal.invariant_of-result
invariant_of-result c = kept_none _ c.args.slots c.in_ok-buckets.ensures c.requires c.ranges.slots.fits

pub returns-clause-none : goal.returns-clause-none
returns-clause-none c = ap entries_in c.in_ok-buckets.ensures ∙ none_in_replicate c.args.slots
