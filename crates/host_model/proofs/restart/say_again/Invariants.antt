-- The pieces so far were said again.
use Rattle.std.proofs.Common.{◌≡◌, take}
use Rattle.host_model.specs.Calls.{said_after}
use Rattle.host_model.specs.Log.{newest_first}
use Rattle.host_model.proofs.restart.say_again.Given as goal

abbrev pub invariant-loop-call : goal.invariant-loop-call
invariant-loop-call l = l.said.items ≡ said_after l.fn.said.items (newest_first (take l.call-index l.calls))
