use Rattle.std.proofs.Common.{slice_index, ◌∙◌, sym}
use Rattle.block_disk.proofs.Heads.{well_formed_fits}
use Rattle.block_disk.proofs.block_head.read_block_head.Goals as goal

pub returns-then-is_well_formed-clause-well_formed : goal.returns-then-is_well_formed-clause-well_formed
returns-then-is_well_formed-clause-well_formed c =
    well_formed_fits (slice_index c.args.head.now 0) c.read_u32-length.result (sym c.is_well_formed.ensures ∙ c.if-is_well_formed.true)
