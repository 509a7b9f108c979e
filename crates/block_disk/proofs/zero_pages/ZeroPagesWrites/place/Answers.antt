use Rattle.std.proofs.Common.{◌<◌, option_map, ap, arith}
use Rattle.host_model.specs.Writes.{Write}
use Rattle.file_model.specs.Layout.{page_size}
use Rattle.block_disk.proofs.Zeroing.{how_many, nth_page}
use Rattle.block_disk.proofs.zero_pages.ZeroPagesWrites.place.Goals as goal

pub overflow_mul-result : goal.overflow_mul-result
overflow_mul-result c = omega (arith, how_many page_size c.args.self.now.at 65, c.requires)

pub overflow_add-result : goal.overflow_add-result
overflow_add-result c = omega (arith, how_many page_size c.args.self.now.at 65, c.requires, c.args.self.now.in_range)

pub returns : goal.returns
returns c =
    let at = c.args.self.now.at in
    let below : c.args.i < 65 = omega (arith, how_many page_size at 65, c.requires) in
    ap (option_map (λ (w : Write). w.at)) (nth_page page_size at 65 c.args.i below)
