-- The writes so far were patched.
use Rattle.std.proofs.Common.{take}
use Rattle.host_model.specs.Log.{newest_first}
use Rattle.host_model.proofs.Patches.{IsPicked}
use Rattle.host_model.proofs.restart.patch.Given as goal

abbrev pub invariant-loop-call : goal.invariant-loop-call
invariant-loop-call l = IsPicked l.pick l.fn.image.items (newest_first (take l.call-index l.calls)) l.image.items
