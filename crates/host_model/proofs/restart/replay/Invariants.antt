-- The writes so far were made again.
use Rattle.std.proofs.Common.{◌≡◌, take}
use Rattle.host_model.specs.Calls.{file_after}
use Rattle.host_model.specs.Log.{newest_first}
use Rattle.host_model.proofs.restart.replay.Given as goal

abbrev pub invariant-loop-call : goal.invariant-loop-call
invariant-loop-call l = l.file.items ≡ file_after l.fn.file.items (newest_first (take l.call-index l.calls))
