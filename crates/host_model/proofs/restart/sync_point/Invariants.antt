-- The last sync among the calls so far.
use Rattle.std.proofs.Common.{◌≡◌, ◌≤◌, List, ℕ, take, drop}
use Rattle.host_model.specs.Calls.{file_after, synced_after, unsynced}
use Rattle.host_model.specs.Log.{newest_first, written}
use Rattle.host_model.proofs.restart.sync_point.Given as goal

abbrev pub invariant-loop-i : goal.invariant-loop-i
invariant-loop-i l =
    (l.since ≤ l.i) × (unsynced (newest_first (take l.i l.calls)) ≡ written (newest_first (drop l.since (take l.i l.calls))))
    × ((first : List ℕ) → synced_after first (newest_first (take l.i l.calls)) ≡ file_after first (newest_first (take l.since l.calls)))
