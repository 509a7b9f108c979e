use Rattle.std.proofs.Common.{◌≡◌}
use Rattle.feed_model.specs.Feed.{total}
use Rattle.cases.proofs.streams.take_all.Given as goal

abbrev pub invariant-loop : goal.invariant-loop
invariant-loop g l = (total (g.F.Feed.shows l.feed) ≡ total (g.F.Feed.shows l.fn.feed))
    × ((g.F.Feed.shows l.feed).finished ≡ (g.F.Feed.shows l.fn.feed).finished)
