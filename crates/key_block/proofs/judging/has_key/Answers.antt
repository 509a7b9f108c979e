use Rattle.std.proofs.Common.{◌∙◌, ap}
use Rattle.dets_term.specs.Same.{same_by}
use Rattle.table_model.specs.Table.{is_key}
use Rattle.key_block.proofs.judging.has_key.Goals as goal

pub returns-in-Some : goal.returns-in-Some
returns-in-Some c =
    same_by c.eq.result c.in-Some.found.now c.args.key.now c.eq.ensures ∙ ap (is_key c.args.key.now) c.in-Some.ensures
