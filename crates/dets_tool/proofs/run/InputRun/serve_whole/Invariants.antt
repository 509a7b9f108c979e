use Rattle.std.proofs.Common.{◌≡◌, ◌≤◌, length}
use Rattle.feed_model.specs.Feed.{total}
use Rattle.dets_tool.specs.Serving.{standing, Serves, IsReady}
use Rattle.dets_tool.proofs.run.InputRun.serve_whole.Given as goal

-- the terms so far were answered, and no bytes come in between
abbrev pub invariant-loop : goal.invariant-loop
invariant-loop g l = record {
  served : Serves g.F.Feed.meaning g.W.Service.service (g.F.Feed.shows l.fn.self.feed).finished
      (standing (g.F.Feed.shows l.fn.self.feed) (g.W.Service.state l.fn.self.service) l.fn.self.answered (g.H.Host.shows l.fn.host))
      (standing (g.F.Feed.shows l.self.feed) (g.W.Service.state l.self.service) l.self.answered (g.H.Host.shows l.host));
  ready : IsReady (g.F.Feed.shows l.fn.self.feed).finished (g.F.Feed.shows l.self.feed) l.self.answered;
  serves : g.W.Service.is_ready l.self.service;
  fed : l.self.fed ≡ l.fn.self.fed;
  bytes : total (g.F.Feed.shows l.self.feed) ≡ total (g.F.Feed.shows l.fn.self.feed);
  never_falls : (g.H.Host.shows l.fn.host).out_faults ≤ (g.H.Host.shows l.host).out_faults;
  file : (g.H.Host.shows l.host).file ≡ (g.H.Host.shows l.fn.host).file;
  disk_faults : (g.H.Host.shows l.host).disk_faults ≡ (g.H.Host.shows l.fn.host).disk_faults;
  reads : (g.H.Host.shows l.host).reads ≡ (g.H.Host.shows l.fn.host).reads;
}

abbrev pub decreases-loop : goal.decreases-loop
decreases-loop g l = length (g.F.Feed.shows l.self.feed).left
