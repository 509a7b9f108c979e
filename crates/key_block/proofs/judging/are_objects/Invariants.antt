use Rattle.std.proofs.Common.{◌≡◌, drop}
use Rattle.std.specs.List.{list_all}
use Rattle.table_model.specs.Allowed.{is_object}
use Rattle.key_block.proofs.judging.are_objects.Given as goal

-- what is left decides
abbrev pub invariant-loop-place : goal.invariant-loop-place
invariant-loop-place l = list_all (is_object l.keypos) (drop l.place l.objects) ≡ list_all (is_object l.keypos) l.objects
