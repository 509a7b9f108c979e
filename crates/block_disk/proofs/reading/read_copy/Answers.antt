use Rattle.std.proofs.Common.{◌+◌, slice_range, ap, sym, ◌∙◌}
use Rattle.file_model.specs.Header.{head_in}
use Rattle.block_disk.proofs.Pages.{body_in_page}
use Rattle.block_disk.proofs.reading.read_copy.Goals as goal

pub returns-clause-given : goal.returns-clause-given
returns-clause-given g c f told =
    c.head_in.ensures.value ∙ ap head_in (c.in_ok-read_at.ensures.given f told ∙ ap (λ at. slice_range f at (at + 32)) c.body_at.ensures
    ∙ sym (body_in_page f c.args.second))
