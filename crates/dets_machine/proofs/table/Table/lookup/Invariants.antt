-- The objects of the key so far are found.
use Rattle.std.proofs.Common.{◌≡◌, filter, take}
use Rattle.table_model.specs.Table.{has_key}
use Rattle.dets_machine.proofs.table.Table.lookup.Given as goal

abbrev pub invariant-loop-object : goal.invariant-loop-object
invariant-loop-object l = l.found ≡ filter (has_key 1 l.key) (take l.object-index l.object-items)
