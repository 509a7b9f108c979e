use Rattle.std.proofs.Common.{◌+◌, subst}
use Rattle.etf_model.specs.Spelling.{number}
use Rattle.etf_model.specs.Skipping.{gap}
use Rattle.etf_codec.specs.Reads.{Reads}
use Rattle.etf_codec.proofs.Reading.{reads_behind}
use Rattle.etf_codec.proofs.skipping.skip_sized.Goals as goal

pub returns : goal.returns
returns c term =
    reads_behind (number c.args.size) (λ n. gap (n + c.args.extra)) term c.args.cursor.now c.number.new.self c.skip_bytes.new.cursor _ c.skip_bytes.result
    (c.in_ok-number.ensures term)
    (subst (λ n. Reads (gap (n + c.args.extra)) term c.number.new.self c.skip_bytes.new.cursor c.skip_bytes.result) c.from-count.ensures
    (c.skip_bytes.ensures term))
