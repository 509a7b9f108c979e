-- Once nothing is left, all characters of the word were yielded.
use Rattle.std.proofs.Common.{◌∙◌, sym}
use Rattle.std.proofs.lemmas.List.{map-id}
use Rattle.std.proofs.lemmas.Iterator.{YieldsList-from_chars}
use Rattle.std.proofs.lemmas.Iterator.Consumers.{YieldsList-end}
use Rattle.dets_tool.proofs.job.text_of.Goals as goal

pub returns : goal.returns
returns c =
    let start = YieldsList-from_chars c.args.word.now c.utf8.word cc in
    let all = YieldsList-end start c.loop-item.yielded _ c.loop-item.yielded_by _ _ c.in-None.is c.next.ensures.steps in
    c.loop-item.invariant ∙ sym (map-id c.loop-item.yielded) ∙ all.0
