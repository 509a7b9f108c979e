use Rattle.std.proofs.Common.{◌≤◌, arith}
use Rattle.slot_table.specs.BySlot.{entries_in}
use Rattle.slot_table.proofs.Entering.{length-parted, in_parted, parted_old}
use Rattle.slot_table.proofs.Splitting.{unsplit_at}
use Rattle.slot_table.proofs.Keeping.{keys_parted, objects_parted, parted_directory}
use Rattle.slot_table.proofs.laws.growing_keeps_every_entry.Goals as goal

pub returns-clause-entries : goal.returns-clause-entries
returns-clause-entries c = λ slots es some. record { there = λ e a. parted_old slots es e some a; back = λ e a. in_parted slots es e a }

pub returns-clause-slots : goal.returns-clause-slots
returns-clause-slots c = length-parted

pub returns-clause-keys : goal.returns-clause-keys
returns-clause-keys c = keys_parted

pub returns-clause-objects : goal.returns-clause-objects
returns-clause-objects c = objects_parted

pub returns-clause-unsplit : goal.returns-clause-unsplit
returns-clause-unsplit c = λ b slots k d more below own. unsplit_at b slots k (omega (arith, d.many)) more d.own below own

pub returns-clause-directory : goal.returns-clause-directory
returns-clause-directory c = λ b slots d more. let many : 256 ≤ slots = omega (arith, d.many, more) in parted_directory slots (entries_in b) many d.units
