use Rattle.std.proofs.Common.{length, refl, ◌∙◌, arith}
use Rattle.host_model.specs.Tearing.{tearing_start, tearing_more, changes_written}
use Rattle.host_model.specs.Writes.{ranges_of}
use Rattle.host_model.proofs.WritesMade.{IsWrite, is_within, may_write, written_more, none_written}
use Rattle.host_model.proofs.runs.write_all.Goals as goal

pub loop-i-init : goal.loop-i-init
loop-i-init g c = record {
  written = none_written (g.H.Host.shows c.args.host.now).file;
  tearing = tearing_start (ranges_of (g.W.Writes.list c.args.writes.now)) (g.H.Host.shows c.args.host.now) (g.met.H.Host.coherent c.args.host.now);
  ok_faults = refl;
  clock = omega arith;
}

pub write_at-requires : goal.write_at-requires
write_at-requires g c =
    let writes = g.W.Writes.list c.args.writes.now in
    let is : IsWrite writes c.loop-i.i c.place.result c.bytes.result.now = record { there = omega arith; begins = c.place.ensures; has = c.bytes.ensures } in
    may_write writes c.loop-i.i c.place.result c.bytes.result.now (g.H.Host.shows c.args.host.now) (g.H.Host.shows c.loop-i.host) is c.requires
    c.loop-i.invariant.tearing c.loop-i.invariant.written

pub returns-in_err-write_at-clause-tearing : goal.returns-in_err-write_at-clause-tearing
returns-in_err-write_at-clause-tearing g c =
    let writes = g.W.Writes.list c.args.writes.now in
    let is : IsWrite writes c.loop-i.i c.place.result c.bytes.result.now = record { there = omega arith; begins = c.place.ensures; has = c.bytes.ensures } in
    let e = c.in_err-write_at.ensures in
    tearing_more (ranges_of writes) c.place.result (length c.bytes.result.now) (g.H.Host.shows c.args.host.now) (g.H.Host.shows c.loop-i.host)
    (g.H.Host.shows c.write_at.new.self)
    (is_within writes c.loop-i.i c.place.result c.bytes.result.now is) c.loop-i.invariant.tearing e.goes e.torn e.said e.reads e.never_falls e.out_faults

pub loop-i-preserved : goal.loop-i-preserved
loop-i-preserved g c =
    let writes = g.W.Writes.list c.args.writes.now in
    let old = g.H.Host.shows c.args.host.now in
    let mid = g.H.Host.shows c.loop-i.host in
    let new = g.H.Host.shows c.write_at.new.self in
    let is : IsWrite writes c.loop-i.i c.place.result c.bytes.result.now = record { there = omega arith; begins = c.place.ensures; has = c.bytes.ensures } in
    let e = c.in_ok-write_at.ensures in
    let inside = may_write writes c.loop-i.i c.place.result c.bytes.result.now old mid is c.requires c.loop-i.invariant.tearing c.loop-i.invariant.written in
    record {
      written = written_more writes c.loop-i.i c.place.result c.bytes.result.now old.file mid.file new.file is c.loop-i.invariant.written e.written;
      tearing = tearing_more (ranges_of writes) c.place.result (length c.bytes.result.now) old mid new
          (is_within writes c.loop-i.i c.place.result c.bytes.result.now is)
          c.loop-i.invariant.tearing e.goes (changes_written c.place.result c.bytes.result.now mid.file new.file inside e.written) e.said e.reads e.never_falls
          e.out_faults;
      ok_faults = e.ok_faults ∙ c.loop-i.invariant.ok_faults;
      clock = omega (arith, c.loop-i.invariant.clock, e.goes.by_one);
    }
