-- One read more filled what it took.
use Rattle.std.proofs.Common.{arith}
use Rattle.std.proofs.lemmas.Grind.{common_steps}
use Rattle.host_model.proofs.Filling.{Consumes-filled}
use Rattle.host_model.proofs.real_file.read_full.Goals as goal

pub loop-preserved : goal.loop-preserved
loop-preserved g c = (
  grind (arith, common_steps),
  Consumes-filled _ _ _ c.loop.filled _ _ c.loop.buf _ c.loop.invariant.0 c.in_ok-filled.ensures.fits c.loop.invariant.1
      c.in_ok-filled.ensures.given,
)
