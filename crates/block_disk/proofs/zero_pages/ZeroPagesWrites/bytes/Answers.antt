use Rattle.std.proofs.Common.{◌<◌, Some, option_map, ap, sym, arith, ◌∙◌}
use Rattle.host_model.specs.Writes.{Write}
use Rattle.file_model.specs.Layout.{page_size}
use Rattle.block_disk.proofs.Zeroing.{how_many, nth_page}
use Rattle.block_disk.proofs.zero_pages.ZeroPagesWrites.bytes.Goals as goal

pub returns : goal.returns
returns c =
    let at = c.args.self.now.at in
    let below : c.args._i < 65 = omega (arith, how_many page_size at 65, c.requires) in
    ap (option_map (λ (w : Write). w.bytes)) (nth_page page_size at 65 c.args._i below) ∙ ap Some (sym c.args.self.now.is_zero)
