use Rattle.std.proofs.Common.{◌∙◌, inr, sym}
use Rattle.etf_model.specs.declared.fault.EtfFault.TheVariants.{BadBits}
use Rattle.etf_model.specs.Layout.{may_use}
use Rattle.etf_model.specs.Spelling.{bit_binary}
use Rattle.etf_codec.proofs.Bytes.{go_on_ok, go_on_err, test_passes, test_fails}
use Rattle.etf_codec.proofs.Within.{within_fault, within_made}
use Rattle.etf_codec.proofs.bits.read_bit_binary.Goals as goal

pub returns-in_err-length-clause-reads : goal.returns-in_err-length-clause-reads
returns-in_err-length-clause-reads c =
    within_fault bit_binary c.args.term c.args.cursor.now c.number.new.self c.from_residual.result _ c.from_residual.ensures.1
    (go_on_err _ _ _ (c.in_err-length.ensures c.args.term))

pub returns-in_err-used-clause-reads : goal.returns-in_err-used-clause-reads
returns-in_err-used-clause-reads c =
    within_fault bit_binary c.args.term c.args.cursor.now c.byte.new.self c.from_residual-in_err-used.result _ c.from_residual-in_err-used.ensures.1
    (go_on_ok _ _ _ _ (c.in_ok-length.ensures c.args.term) ∙ go_on_err _ _ _ (go_on_err _ _ _ (c.in_err-used.ensures.reads c.args.term)))

pub returns-then-not-may_be_used-clause-reads : goal.returns-then-not-may_be_used-clause-reads
returns-then-not-may_be_used-clause-reads c =
    inr (go_on_ok _ _ _ _ (c.in_ok-length.ensures c.args.term)
    ∙ go_on_err _ _ _ (test_fails _ c.in_ok-used.used c.byte.new.self (may_use c.in_ok-length.length) (λ x. BadBits c.args.term)
    (c.in_ok-used.ensures.reads c.args.term) (sym c.if-not-may_be_used.ensures)))

pub returns-in_err-bytes-clause-reads : goal.returns-in_err-bytes-clause-reads
returns-in_err-bytes-clause-reads c =
    within_fault bit_binary c.args.term c.args.cursor.now c.take.new.self c.from_residual-in_err-bytes.result _ c.from_residual-in_err-bytes.ensures.1
    (go_on_ok _ _ _ _ (c.in_ok-length.ensures c.args.term)
    ∙ go_on_ok _ _ _ _ (test_passes _ c.in_ok-used.used c.byte.new.self (may_use c.in_ok-length.length) (λ x. BadBits c.args.term)
    (c.in_ok-used.ensures.reads c.args.term) (sym c.if-not-may_be_used.ensures))
    ∙ go_on_err _ _ _ (c.in_err-bytes.ensures.err c.args.term))

pub returns-clause-reads : goal.returns-clause-reads
returns-clause-reads c =
    within_made bit_binary c.args.term c.args.cursor.now c.take.new.self c.bit_string.result _ c.bit_string.ensures.ok c.bit_string.ensures.err
    (go_on_ok _ _ _ _ (c.in_ok-length.ensures c.args.term)
    ∙ go_on_ok _ _ _ _ (test_passes _ c.in_ok-used.used c.byte.new.self (may_use c.in_ok-length.length) (λ x. BadBits c.args.term)
    (c.in_ok-used.ensures.reads c.args.term) (sym c.if-not-may_be_used.ensures))
    ∙ go_on_ok _ _ _ _ (c.in_ok-bytes.ensures.ok c.args.term))
