use Rattle.std.proofs.Common.{arith}
use Rattle.key_block.proofs.Whole.{whole_decoded, bytes_behind, refused}
use Rattle.key_block.proofs.unpacking.whole_term.Goals as goal

pub returns-in_err-term : goal.returns-in_err-term
returns-in_err-term c = refused c.args.payload.now c.from_residual.result c.in_err-term.field-0.0 c.from_residual.ensures.1 c.in_err-term.ensures.decodes

pub returns-then-count-payload : goal.returns-then-count-payload
returns-then-count-payload c = bytes_behind c.args.payload.now c.in_ok-term.term c.in_ok-term.count c.in_ok-term.ensures.decodes (omega arith)

pub returns : goal.returns
returns c = whole_decoded c.args.payload.now c.in_ok-term.term c.in_ok-term.count c.in_ok-term.ensures.decodes (omega arith)
