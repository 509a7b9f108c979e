use Rattle.std.proofs.Common.{◌∙◌, rules, tests}
use Rattle.std.proofs.lemmas.Iterator.{YieldsList-from_slice}
use Rattle.std.proofs.lemmas.Iterator.Search.{find_from_yields_List}
use Rattle.slot_table.specs.BySlot.{is_block}
use Rattle.slot_table.proofs.directory.find.Goals as goal

pub returns : goal.returns
returns c =
    c.copied.ensures
    ∙ find_from_yields_List (is_block c.args.hash c.args.unit) _ _ c.find.result c.find.ensures.ran (YieldsList-from_slice c.args.entries.now cc)
    (λ x b q k. search (rules, tests))
