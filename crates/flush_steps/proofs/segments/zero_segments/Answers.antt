use Rattle.std.proofs.Common.{arith, ◌∙◌, ◌+◌}
use Rattle.space_model.specs.Sizes.{segment_units}
use Rattle.host_model.specs.Disk.{range, written_at}
use Rattle.file_model.specs.Layout.{segment_at, segment_size}
use Rattle.block_disk.specs.Zeroed.{zeros}
use Rattle.book_model.specs.Stopped.{AreShut}
use Rattle.flush_steps.specs.Added.{added}
use Rattle.flush_steps.proofs.Told.{told_of}
use Rattle.flush_steps.proofs.Zeroed.{tearing_then, segment_within, shut_more}
use Rattle.flush_steps.proofs.segments.zero_segments.Goals as goal

pub loop-segment-preserved : goal.loop-segment-preserved
loop-segment-preserved g c =
    let from = c.args.from in
    let s = c.loop-segment.segment in
    let e = c.in_ok-zero_segment.ensures in
    record {
      shut = told_of (written_at (segment_at segment_units s) (zeros (segment_size segment_units))) (AreShut segment_units from s)
          (AreShut segment_units from (s + 1)) (g.H.Host.shows c.loop-segment.host).file (g.H.Host.shows c.zero_segment.new.host).file e.written
          c.loop-segment.invariant.shut (λ f shut. shut_more from s f shut);
      tearing = tearing_then (range (segment_at segment_units s) (segment_size segment_units)) (added segment_units from c.args.to)
          (g.H.Host.shows c.args.host.now) (g.H.Host.shows c.loop-segment.host) (g.H.Host.shows c.zero_segment.new.host)
          (segment_within from c.args.to s (omega arith) c.loop-segment-test.true) c.loop-segment.invariant.tearing e.tearing;
      clock = omega (arith, c.loop-segment.invariant.clock, e.clock);
      ok_faults = e.ok_faults ∙ c.loop-segment.invariant.ok_faults;
    }
