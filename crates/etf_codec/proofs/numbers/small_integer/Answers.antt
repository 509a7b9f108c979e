use Rattle.std.proofs.Common.{pos}
use Rattle.dets_term.specs.TermValue.{integer}
use Rattle.etf_model.specs.Format.{byte, changed}
use Rattle.etf_codec.proofs.Bytes.{go_on_ok, go_on_err}
use Rattle.etf_codec.proofs.HandedOn.{int_value}
use Rattle.etf_codec.proofs.Reading.{reads_fault}
use Rattle.etf_codec.proofs.numbers.small_integer.Goals as goal

pub returns-in_err-value-clause-reads : goal.returns-in_err-value-clause-reads
returns-in_err-value-clause-reads c term =
    reads_fault (changed byte (λ x. integer (pos x))) term c.args.cursor.now c.byte.new.self c.from_residual.result _ c.from_residual.ensures.1
    (go_on_err _ _ _ (c.in_err-value.ensures.reads term))

pub returns-clause-reads : goal.returns-clause-reads
returns-clause-reads c term =
    rw (int_value c.int.result _ _ (record { sfits = c.from.type_inv }) c.int.ensures c.from.ensures) (go_on_ok _ _ _ _ (c.in_ok-value.ensures.reads term))
