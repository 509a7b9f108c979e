use Rattle.std.proofs.Common.{Err, ap, sym, ◌∙◌}
use Rattle.etf_model.specs.declared.fault.EtfFault.TheVariants.{Unsupported}
use Rattle.etf_model.specs.Layout.{begins_tail}
use Rattle.etf_codec.specs.declared.tags.Role.TheVariants.{Tail}
use Rattle.etf_codec.proofs.TermSteps.{term_refused, term_fails}
use Rattle.etf_codec.proofs.TagSteps.{tag_follows, tag_fault}
use Rattle.etf_codec.proofs.tags.tail_tag.Goals as goal

pub returns-in_err-tag-clause-reads : goal.returns-in_err-tag-clause-reads
returns-in_err-tag-clause-reads c =
    tag_fault Tail c.args.cursor.now c.byte.new.self c.from_residual.result _ c.from_residual.ensures.1
    (λ levels h. term_fails begins_tail (λ at x. Unsupported at x) levels c.args.cursor.now.offset c.args.cursor.now _ h
    (c.in_err-tag.ensures.reads c.args.cursor.now.offset))

pub returns-then-not-may_begin_tail-clause-reads : goal.returns-then-not-may_begin_tail-clause-reads
returns-then-not-may_begin_tail-clause-reads c levels h =
    term_refused begins_tail (λ at x. Unsupported at x) levels c.in_ok-tag.tag c.args.cursor.now.offset c.args.cursor.now c.byte.new.self h
    (c.in_ok-tag.ensures.reads c.args.cursor.now.offset) (sym c.if-not-may_begin_tail.ensures)
    ∙ ap (λ at. Err (Unsupported at c.in_ok-tag.tag)) (sym c.offset-start.ensures)

pub returns-clause-reads : goal.returns-clause-reads
returns-clause-reads c levels h =
    tag_follows begins_tail (λ at x. Unsupported at x) levels c.in_ok-tag.tag c.args.cursor.now c.byte.new.self h
    (c.in_ok-tag.ensures.reads c.args.cursor.now.offset) (sym c.if-not-may_begin_tail.ensures)
