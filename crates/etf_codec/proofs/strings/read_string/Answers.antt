use Rattle.std.proofs.Common.{suc, ◌∙◌}
use Rattle.etf_model.specs.Layout.{integers}
use Rattle.etf_model.specs.Spelling.{string}
use Rattle.etf_codec.proofs.Built.{IfOk-shallow, depth-integers_levels}
use Rattle.etf_codec.proofs.Bytes.{go_on_ok, go_on_err}
use Rattle.etf_codec.proofs.Within.{within_fault, within_made}
use Rattle.etf_codec.proofs.strings.read_string.Goals as goal

pub returns-in_err-bytes-clause-reads : goal.returns-in_err-bytes-clause-reads
returns-in_err-bytes-clause-reads c =
    within_fault (string c.args.levels) c.args.term c.args.cursor.now c.take.new.self c.from_residual-in_err-bytes.result _
    c.from_residual-in_err-bytes.ensures.1
    (go_on_ok _ _ _ _ c.in_ok-count.ensures.reads ∙ go_on_err _ _ _ (c.in_err-bytes.ensures.err c.args.term))

pub returns-clause-reads : goal.returns-clause-reads
returns-clause-reads c =
    within_made (string c.args.levels) c.args.term c.args.cursor.now c.take.new.self c.list_of_bytes.result _ c.list_of_bytes.ensures.ok
    c.list_of_bytes.ensures.err
    (go_on_ok _ _ _ _ c.in_ok-count.ensures.reads ∙ go_on_ok _ _ _ _ (c.in_ok-bytes.ensures.ok c.args.term))

pub returns-clause-shallow : goal.returns-clause-shallow
returns-clause-shallow c =
    IfOk-shallow c.list_of_bytes.result (integers c.in_ok-bytes.bytes.now) (suc c.args.levels) c.list_of_bytes.ensures.ok
    (depth-integers_levels c.in_ok-bytes.bytes.now c.args.levels (λ none. c.in_ok-bytes.ensures.len ∙ c.in_ok-count.ensures.none none))
