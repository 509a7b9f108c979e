use Rattle.std.proofs.Common.{◌≡◌, drop}
use Rattle.std.specs.List.{list_all}
use Rattle.dets_term.specs.TermValue.{key}
use Rattle.table_model.specs.Table.{shares_key}
use Rattle.key_block.proofs.judging.all_share_key.Given as goal

-- what is left decides
abbrev pub invariant-loop-place : goal.invariant-loop-place
invariant-loop-place l =
    list_all (shares_key l.keypos (key l.first l.keypos)) (drop l.place l.objects) ≡ list_all (shares_key l.keypos (key l.first l.keypos)) l.objects
