use Rattle.std.proofs.Common.{◌+◌, slice_range, arith, ap, ◌∙◌}
use Rattle.file_model.specs.LayoutLaws.{in_segment}
use Rattle.file_model.specs.Block.{block_head}
use Rattle.space_model.specs.Sizes.{segment_units}
use Rattle.block_disk.proofs.Parts.{front_of_unit}
use Rattle.block_disk.proofs.units.read_head.Goals as goal

pub returns-clause-given : goal.returns-clause-given
returns-clause-given g c f told =
    let s = in_segment segment_units c.args.unit (omega arith) in
    c.read_block_head.ensures.given ∙ ap (block_head segment_units) (c.in_ok-read_at.ensures.given f told
    ∙ ap (λ at. slice_range f at (at + 8)) c.unit_at.ensures ∙ front_of_unit segment_units c.args.unit 8 f (omega (arith, s.unit_ends)))
