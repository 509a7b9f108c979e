use Rattle.std.proofs.Common.{ℕ, List, ap, ◌∙◌}
use Rattle.file_model.specs.Layout.{is_open_at}
use Rattle.block_disk.specs.Answer.{copies_by}
use Rattle.block_disk.proofs.Pages.{copies_of_front}
use Rattle.block_disk.proofs.reading.read_copies.Goals as goal

pub returns-clause-given : goal.returns-clause-given
returns-clause-given g c f told =
    c.copies_by.ensures ∙ ap (λ (b : List ℕ). copies_by (is_open_at b 0) (is_open_at b 512)) (c.in_ok-read_at.ensures.given f told) ∙ copies_of_front f
