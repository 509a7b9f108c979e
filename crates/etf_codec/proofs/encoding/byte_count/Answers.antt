use Rattle.std.proofs.Common.{◌∙◌, arith}
use Rattle.etf_codec.proofs.FewestBytes.{byte_count-is}
use Rattle.etf_codec.proofs.encoding.byte_count.Goals as goal

pub returns-clause-value : goal.returns-clause-value
returns-clause-value c = c.div_ceil.ensures ∙ byte_count-is c.args.magnitude (omega arith)
