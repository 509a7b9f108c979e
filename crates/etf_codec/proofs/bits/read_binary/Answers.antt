use Rattle.etf_model.specs.Spelling.{binary}
use Rattle.etf_codec.proofs.Bytes.{go_on_ok, go_on_err}
use Rattle.etf_codec.proofs.Within.{within_fault, within_made}
use Rattle.etf_codec.proofs.bits.read_binary.Goals as goal

pub returns-in_err-bytes-clause-reads : goal.returns-in_err-bytes-clause-reads
returns-in_err-bytes-clause-reads c term =
    within_fault binary term c.args.cursor.now c.sized.new.self c.from_residual.result _ c.from_residual.ensures.1
    (go_on_err _ _ _ (c.in_err-bytes.ensures.err term))

pub returns-clause-reads : goal.returns-clause-reads
returns-clause-reads c term =
    within_made binary term c.args.cursor.now c.sized.new.self c.bit_string.result _ c.bit_string.ensures.ok c.bit_string.ensures.err
    (go_on_ok _ _ _ _ (c.in_ok-bytes.ensures.ok term))
