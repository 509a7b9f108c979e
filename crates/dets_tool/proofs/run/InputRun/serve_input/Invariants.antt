use Rattle.std.proofs.Common.{◌≡◌, ◌≤◌, ◌+◌, ◌^◌, false, Some}
use Rattle.host_model.specs.Source.{Stream}
use Rattle.feed_model.specs.Feed.{total}
use Rattle.dets_tool.specs.declared.input_feed.InputState.TheVariants.{Reading}
use Rattle.dets_tool.specs.Serving.{standing, IsWaiting, IsReady}
use Rattle.dets_tool.proofs.InputRuns.{HasTaken}
use Rattle.dets_tool.proofs.run.InputRun.serve_input.Given as goal

-- what was taken was answered as far as it is whole, and with what is left of the budget it comes to the budget
abbrev pub invariant-loop-input : goal.invariant-loop-input
invariant-loop-input g l = record {
  budget : total (g.F.Feed.shows l.self.feed) + l.input.room ≤ 2 ^ 32;
  open_input : l.input.state ≡ Reading;
  ready : IsReady false (g.F.Feed.shows l.self.feed) l.self.answered;
  serves : g.W.Service.is_ready l.self.service;
  fed : l.self.fed ≡ total (g.F.Feed.shows l.self.feed);
  waiting : IsWaiting g.F.Feed.meaning false (g.F.Feed.shows l.self.feed);
  taken : (stream : Stream) → g.S.Source.told l.fn.source ≡ Some stream → stream.ended ≡ false
      → HasTaken g.F.Feed.meaning g.F.Input.told g.W.Service.service stream.left l.input.room (g.S.Source.told l.source) (g.H.Host.shows l.fn.host).said
      (standing (g.F.Feed.shows l.self.feed) (g.W.Service.state l.self.service) l.self.answered (g.H.Host.shows l.host));
  source_faults : g.S.Source.faults l.source ≡ g.S.Source.faults l.fn.source;
  never_falls : (g.H.Host.shows l.fn.host).out_faults ≤ (g.H.Host.shows l.host).out_faults;
  file : (g.H.Host.shows l.host).file ≡ (g.H.Host.shows l.fn.host).file;
  disk_faults : (g.H.Host.shows l.host).disk_faults ≡ (g.H.Host.shows l.fn.host).disk_faults;
  reads : (g.H.Host.shows l.host).reads ≡ (g.H.Host.shows l.fn.host).reads;
}

abbrev pub decreases-loop-input : goal.decreases-loop-input
decreases-loop-input g l = l.input.room
