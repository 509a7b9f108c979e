use Rattle.std.proofs.Common.{◌<◌, length, map, take, arith}
use Rattle.buddy_space.proofs.Deferring.{released_more}
use Rattle.buddy_space.proofs.Written.{within_at, mapped_more}
use Rattle.buddy_space.specs.Marks.{run_of}
use Rattle.buddy_space.proofs.marks.release.Goals as goal

pub fill-requires-clause-exp : goal.fill-requires-clause-exp
fill-requires-clause-exp c =
    let l : c.loop-run.run-index < length c.args.runs.now = omega arith in
    (within_at (length c.args.marks.now) c.args.runs.now c.loop-run.run-index (record { unit = 0; exp = 0 }) c.requires l).exp

pub fill-requires-clause-ends : goal.fill-requires-clause-ends
fill-requires-clause-ends c =
    let l : c.loop-run.run-index < length c.args.runs.now = omega arith in
    let ends = (within_at (length c.args.marks.now) c.args.runs.now c.loop-run.run-index (record { unit = 0; exp = 0 }) c.requires l).ends in
    omega (arith, ends)

pub loop-run-preserved : goal.loop-run-preserved
loop-run-preserved c =
    let l : c.loop-run.run-index < length c.args.runs.now = omega arith in
    rw (mapped_more c.args.runs.now c.loop-run.run-index (record { unit = 0; exp = 0 }) l)
    (released_more c.args.marks.now c.loop-run.marks c.fill.new.marks (map run_of (take c.loop-run.run-index c.args.runs.now)) _ c.loop-run.invariant c.fill.ensures)
