use Rattle.etf_codec.proofs.Decodings.{decoded, not_decoded, decoding_not_long}
use Rattle.etf_codec.proofs.decoding.decode.Goals as goal

pub returns-in_err-term-clause-decodes : goal.returns-in_err-term-clause-decodes
returns-in_err-term-clause-decodes c =
    not_decoded c.args.bytes.now c.new-reader.result c.new-reader.ensures c.new-cursor.result c.new-cursor.ensures
    c.from_residual.result _ c.from_residual.ensures.1 c.in_err-term.ensures.0

pub returns-in_err-term-clause-never_long : goal.returns-in_err-term-clause-never_long
returns-in_err-term-clause-never_long c = decoding_not_long c.args.bytes.now _ (returns-in_err-term-clause-decodes c)

pub returns-clause-decodes : goal.returns-clause-decodes
returns-clause-decodes c =
    decoded c.args.bytes.now c.new-reader.result c.new-reader.ensures c.new-cursor.result c.new-cursor.ensures
    c.read.new.cursor c.in_ok-term.term c.offset.result c.in_ok-term.ensures c.offset.ensures
