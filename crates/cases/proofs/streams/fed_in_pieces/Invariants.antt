use Rattle.std.proofs.Common.{◌≡◌, ◌≤◌, ◌-◌, false, length}
use Rattle.feed_model.specs.Feed.{total}
use Rattle.cases.proofs.streams.fed_in_pieces.Given as goal

abbrev pub invariant-loop-at : goal.invariant-loop-at
invariant-loop-at g l = (total (g.F.Feed.shows l.feed) ≡ l.at) × ((g.F.Feed.shows l.feed).finished ≡ false) × (l.at ≤ length l.bytes) × (1 ≤ l.size)

abbrev pub decreases-loop-at : goal.decreases-loop-at
decreases-loop-at g l = length l.bytes - l.at
