use Rattle.etf_model.specs.Skipping.{node, gap}
use Rattle.etf_codec.proofs.Reading.{reads_behind, reads_first_fault}
use Rattle.etf_codec.proofs.skipping.skip_at_node.Goals as goal

pub returns-in_err-skip_node : goal.returns-in_err-skip_node
returns-in_err-skip_node c term =
    reads_first_fault node (λ name. gap c.args.count) term c.args.cursor.now c.skip_node.new.cursor c.from_residual.result _ c.from_residual.ensures.1
    (c.in_err-skip_node.ensures term)

pub returns : goal.returns
returns c term =
    reads_behind node (λ name. gap c.args.count) term c.args.cursor.now c.skip_node.new.cursor c.skip_bytes.new.cursor tt c.skip_bytes.result
    (c.in_ok-skip_node.ensures term) (c.skip_bytes.ensures term)
