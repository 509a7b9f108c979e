-- One write more: the front of the piece grew by what it took.
use Rattle.std.proofs.Common.{arith}
use Rattle.std.proofs.lemmas.Grind.{common_steps}
use Rattle.std.proofs.lemmas.List.{take_rest}
use Rattle.host_model.proofs.Appending.{Appends-take_add}
use Rattle.host_model.proofs.file_host.write_piece.Goals as goal

pub loop-preserved : goal.loop-preserved
loop-preserved g c =
    (grind (arith, common_steps), Appends-take_add _ _ _ _ _ _ c.loop.invariant.1 (rw take_rest at c.in_ok-written.ensures.ok))
