use Rattle.std.proofs.Common.{refl, filter}
use Rattle.std.proofs.lemmas.List.{length-map}
use Rattle.slot_table.specs.BySlot.{is_other}
use Rattle.slot_table.proofs.Entering.{removed_other, in_removed, lacks_removed}
use Rattle.slot_table.proofs.Keeping.{removed_keys, removed_objects, removed_directory}
use Rattle.slot_table.proofs.laws.a_removed_entry_alone_goes.Goals as goal

pub returns-clause-others : goal.returns-clause-others
returns-clause-others c = λ b e x d. removed_other b e x d.units

pub returns-clause-none_else : goal.returns-clause-none_else
returns-clause-none_else c = in_removed

pub returns-clause-unit : goal.returns-clause-unit
returns-clause-unit c = λ b e d. lacks_removed b e d.units

pub returns-clause-slots : goal.returns-clause-slots
returns-clause-slots c = λ b hash unit. length-map b (filter (is_other hash unit))

pub returns-clause-keys : goal.returns-clause-keys
returns-clause-keys c = λ b e d there. removed_keys b e.hash e.unit e d.units there refl refl

pub returns-clause-objects : goal.returns-clause-objects
returns-clause-objects c = λ b e d there. removed_objects b e.hash e.unit e d.units there refl refl

pub returns-clause-directory : goal.returns-clause-directory
returns-clause-directory c = removed_directory
