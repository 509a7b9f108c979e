use Rattle.space_model.proofs.Splits.{slot_below}
use Rattle.file_model.specs.declared.entry.Entry.{Entry}
use Rattle.space_model.specs.Slots.{slot_of}
use Rattle.std.proofs.Common.{length}
use Rattle.slot_table.proofs.Tables.{length-with_entry}
use Rattle.slot_table.proofs.Entering.{added_new, added_old, in_added}
use Rattle.slot_table.proofs.Totals.{total_added}
use Rattle.slot_table.proofs.Keeping.{added_keys, added_directory}
use Rattle.slot_table.proofs.laws.an_added_entry_joins_the_others.Goals as goal

pub returns-clause-new : goal.returns-clause-new
returns-clause-new c = added_new

pub returns-clause-old : goal.returns-clause-old
returns-clause-old c = added_old

pub returns-clause-none_else : goal.returns-clause-none_else
returns-clause-none_else c = in_added

pub returns-clause-slots : goal.returns-clause-slots
returns-clause-slots c = length-with_entry

pub returns-clause-keys : goal.returns-clause-keys
returns-clause-keys c = λ b e some. added_keys b e (slot_below e.hash (length b) some)

pub returns-clause-objects : goal.returns-clause-objects
returns-clause-objects c = λ b e some. total_added (λ (x : Entry). x.count) b (slot_of e.hash (length b)) e (slot_below e.hash (length b) some)

pub returns-clause-directory : goal.returns-clause-directory
returns-clause-directory c = added_directory
