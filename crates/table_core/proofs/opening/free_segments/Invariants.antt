-- So many segments were added so far.
use Rattle.std.proofs.Common.{◌≡◌}
use Rattle.buddy_space.specs.SpaceState.{no_segments}
use Rattle.flush_engine.specs.Placing.{in_segments}
use Rattle.table_core.proofs.opening.free_segments.Given as goal

abbrev pub invariant-loop-segment : goal.invariant-loop-segment
invariant-loop-segment l = l.space ≡ in_segments l.segment no_segments
