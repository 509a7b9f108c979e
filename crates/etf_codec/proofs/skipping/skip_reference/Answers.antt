use Rattle.std.proofs.Common.{◌+◌, ◌*◌, subst}
use Rattle.etf_model.specs.Spelling.{number}
use Rattle.etf_model.specs.Skipping.{at_node}
use Rattle.etf_codec.specs.Reads.{Reads}
use Rattle.etf_codec.proofs.Reading.{reads_behind, reads_first_fault}
use Rattle.etf_codec.proofs.skipping.skip_reference.Goals as goal

pub returns-in_err-number : goal.returns-in_err-number
returns-in_err-number c term =
    reads_first_fault (number 2) (λ n. at_node (c.args.creation + 4 * n)) term c.args.cursor.now c.number.new.self c.from_residual.result _
    c.from_residual.ensures.1 (c.in_err-number.ensures term)

pub returns : goal.returns
returns c term =
    reads_behind (number 2) (λ n. at_node (c.args.creation + 4 * n)) term c.args.cursor.now c.number.new.self c.skip_at_node.new.cursor _ c.skip_at_node.result
    (c.in_ok-number.ensures term)
    (subst (λ n. Reads (at_node (c.args.creation + 4 * n)) term c.number.new.self c.skip_at_node.new.cursor c.skip_at_node.result) c.from-count.ensures
    (c.skip_at_node.ensures term))
