use Rattle.std.proofs.Common.{ℕ, List, ap, ◌∙◌}
use Rattle.host_model.specs.Disk.{written_at}
use Rattle.file_model.specs.Layout.{page_size}
use Rattle.block_disk.specs.Zeroed.{zeros}
use Rattle.block_disk.proofs.making.blank_page.Goals as goal

pub returns : goal.returns
unfolding zeros
returns c = c.put_body.ensures ∙ ap (λ (b : List ℕ). written_at 16 b (zeros page_size)) c.body_bytes.ensures
