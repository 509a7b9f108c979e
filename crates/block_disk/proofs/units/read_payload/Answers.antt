use Rattle.std.proofs.Common.{◌+◌, length, slice_range, ap, ◌∙◌}
use Rattle.std.proofs.lemmas.Result.{on_ok_weaker}
use Rattle.space_model.specs.Sizes.{segment_units}
use Rattle.block_disk.proofs.Parts.{part_of_unit}
use Rattle.block_disk.proofs.units.read_payload.Goals as goal

pub returns-clause-given : goal.returns-clause-given
returns-clause-given g c =
    let n = length c.args.payload.now in
    on_ok_weaker c.read_at.result (λ given f told. given f told ∙ ap (λ at. slice_range f (at + 8) (at + 8 + n)) c.unit_at.ensures
    ∙ part_of_unit segment_units c.args.unit 8 n f c.requires.room) c.read_at.ensures.given
