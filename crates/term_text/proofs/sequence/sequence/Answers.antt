use Rattle.std.proofs.Common.{◌≡◌, Some, slice_get, ◌∙◌, sym}
use Rattle.term_text.proofs.SequencesTold.{part_told}
use Rattle.term_text.proofs.sequence.sequence.Goals as goal

pub returns-in-Some : goal.returns-in-Some
returns-in-Some c =
    let first : slice_get c.args.bytes.now 0 ≡ Some c.in-Some.lead.now = let h = c.in-Some.ensures.value in cc in
    sym (part_told c.args.bytes.now c.in-Some.lead.now (sym c.decode.ensures.char ∙ c.in-None-default.is-0) first
    (sym c.decode.ensures.size ∙ c.if-size-bytes.true) (sym c.leads.ensures ∙ c.if-leads.true))
