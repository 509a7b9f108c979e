use Rattle.slot_table.proofs.Apart.{one_entry}
use Rattle.slot_table.proofs.Keeping.{slot_is}
use Rattle.slot_table.specs.BySlot.{entries_in}
use Rattle.slot_table.proofs.laws.each_entry_stands_once_in_its_slot.Goals as goal

pub returns-clause-one : goal.returns-clause-one
returns-clause-one c = λ b x y d. one_entry (entries_in b) x y d.units

pub returns-clause-slot : goal.returns-clause-slot
returns-clause-slot c = λ b k d. slot_is b k d
