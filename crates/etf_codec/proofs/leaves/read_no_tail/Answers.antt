use Rattle.std.proofs.Common.{◌≡◌, ◌∙◌, ◌==◌, true, false, inr, arith, sym, ap, Err}
use Rattle.std.proofs.lemmas.Bool.Decides.{nat_tests}
use Rattle.etf_model.specs.declared.fault.EtfFault.TheVariants.{Unsupported}
use Rattle.etf_model.specs.declared.tags.TheConstants.{NIL}
use Rattle.etf_model.specs.Spelling.{no_tail}
use Rattle.etf_codec.proofs.Bytes.{go_on_ok, go_on_err, test_passes, test_fails}
use Rattle.etf_codec.proofs.Within.{within_fault, within_made}
use Rattle.etf_codec.proofs.leaves.read_no_tail.Goals as goal

pub returns-in_err-tag-clause-reads : goal.returns-in_err-tag-clause-reads
returns-in_err-tag-clause-reads c term =
    within_fault no_tail term c.args.cursor.now c.byte.new.self c.from_residual.result _ c.from_residual.ensures.1
    (go_on_err _ _ _ (go_on_err _ _ _ (c.in_err-tag.ensures.reads term)))

pub returns-then-tag-ne-NIL-clause-reads : goal.returns-then-tag-ne-NIL-clause-reads
returns-then-tag-ne-NIL-clause-reads c term =
    let apart : (c.in_ok-tag.tag == NIL) ≡ false = grind (arith, nat_tests) in
    inr (go_on_err _ _ _ (test_fails _ c.in_ok-tag.tag c.byte.new.self (λ x. x == NIL) (λ x. Unsupported c.args.cursor.now.offset x)
    (c.in_ok-tag.ensures.reads term) apart)
    ∙ ap (λ start. Err (Unsupported start c.in_ok-tag.tag)) (sym c.offset-start.ensures))

pub returns-clause-reads : goal.returns-clause-reads
returns-clause-reads c term =
    let same : (c.in_ok-tag.tag == NIL) ≡ true = grind (arith, nat_tests) in
    within_made no_tail term c.args.cursor.now c.byte.new.self c.empty_list.result _ c.empty_list.ensures.ok c.empty_list.ensures.err
    (go_on_ok _ _ _ _ (test_passes _ c.in_ok-tag.tag c.byte.new.self (λ x. x == NIL) (λ x. Unsupported c.args.cursor.now.offset x)
    (c.in_ok-tag.ensures.reads term) same))
