use Rattle.std.proofs.Common.{cond, ◌==◌, Err, ap, sym, ◌∙◌}
use Rattle.etf_model.specs.declared.fault.EtfFault.TheVariants.{Unsupported, Compressed}
use Rattle.etf_model.specs.declared.tags.TheConstants.{COMPRESSED}
use Rattle.etf_model.specs.Layout.{is_known}
use Rattle.etf_codec.specs.declared.tags.Role.TheVariants.{Outermost}
use Rattle.etf_codec.proofs.TermSteps.{term_refused, term_fails}
use Rattle.etf_codec.proofs.TagSteps.{tag_follows, tag_fault}
use Rattle.etf_codec.proofs.tags.outermost_tag.Goals as goal

pub returns-in_err-tag-clause-reads : goal.returns-in_err-tag-clause-reads
returns-in_err-tag-clause-reads c =
    tag_fault Outermost c.args.cursor.now c.byte.new.self c.from_residual.result _ c.from_residual.ensures.1
    (λ levels h. term_fails is_known (λ at x. cond (x == COMPRESSED) (Compressed at) (Unsupported at x)) levels c.args.cursor.now.offset c.args.cursor.now _ h
    (c.in_err-tag.ensures.reads c.args.cursor.now.offset))

pub returns-then-not-is_known_tag-clause-reads : goal.returns-then-not-is_known_tag-clause-reads
returns-then-not-is_known_tag-clause-reads c levels h =
    term_refused is_known (λ at x. cond (x == COMPRESSED) (Compressed at) (Unsupported at x)) levels c.in_ok-tag.tag c.args.cursor.now.offset c.args.cursor.now
    c.byte.new.self h (c.in_ok-tag.ensures.reads c.args.cursor.now.offset) (sym c.if-not-is_known_tag.ensures)
    ∙ ap (λ at. Err (cond (c.in_ok-tag.tag == COMPRESSED) (Compressed at) (Unsupported at c.in_ok-tag.tag))) (sym c.offset-start.ensures)
    ∙ ap Err (sym c.unknown_tag.ensures)

pub returns-clause-reads : goal.returns-clause-reads
returns-clause-reads c levels h =
    tag_follows is_known (λ at x. cond (x == COMPRESSED) (Compressed at) (Unsupported at x)) levels c.in_ok-tag.tag c.args.cursor.now c.byte.new.self h
    (c.in_ok-tag.ensures.reads c.args.cursor.now.offset) (sym c.if-not-is_known_tag.ensures)
