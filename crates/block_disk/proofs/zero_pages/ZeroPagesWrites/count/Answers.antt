use Rattle.std.proofs.Common.{sym}
use Rattle.file_model.specs.Layout.{page_size}
use Rattle.block_disk.proofs.Zeroing.{how_many}
use Rattle.block_disk.proofs.zero_pages.ZeroPagesWrites.count.Goals as goal

pub returns : goal.returns
returns c = sym (how_many page_size c.args.self.now.at 65)
