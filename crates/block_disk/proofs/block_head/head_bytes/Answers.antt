use Rattle.std.proofs.Common.{List, ℕ, [], ◌∷◌, ◌++◌, ap, ◌∙◌}
use Rattle.file_model.specs.Block.{block_head}
use Rattle.space_model.specs.Sizes.{segment_units}
use Rattle.block_disk.proofs.Heads.{head_back}
use Rattle.block_disk.proofs.block_head.head_bytes.Goals as goal

pub returns-clause-reads_back : goal.returns-clause-reads_back
returns-clause-reads_back c =
    ap (λ (b : List ℕ). block_head segment_units (c.args.exp ∷ 0 ∷ 0 ∷ 0 ∷ (b ++ []))) c.write_u32.ensures
    ∙ head_back c.args.exp c.args.length c.requires.exponent c.requires.fits
