use Rattle.std.proofs.Common.{refl, ◌∙◌, arith}
use Rattle.std.proofs.lemmas.Result.{err_from_is_err_and}
use Rattle.dets_tool.proofs.Serving.{Serves-none, Serves-on, Breaks-on, IsReady-on}
use Rattle.dets_tool.proofs.run.InputRun.serve_whole.Goals as goal

pub loop-init : goal.loop-init
loop-init g c = record {
  served = Serves-none g.F.Feed.meaning g.W.Service.service _ _;
  ready = c.requires.ready;
  serves = c.requires.serves;
  fed = refl;
  bytes = refl;
  never_falls = omega arith;
  file = refl;
  disk_faults = refl;
  reads = refl;
}

pub returns-in_err-serve_next-clause-breaks : goal.returns-in_err-serve_next-clause-breaks
returns-in_err-serve_next-clause-breaks g c =
    let p = err_from_is_err_and c.from_residual.result c.from_residual.ensures.1 in
    let i = c.loop.invariant in
    rw (p.1, p.2)
    (Breaks-on g.F.Feed.meaning g.W.Service.service _ _ i.ready.at_end g.F.Input.told _ _ _ _ i.served c.in_err-serve_next.ensures.breaks)

pub loop-preserved : goal.loop-preserved
loop-preserved g c =
    let i = c.loop.invariant in
    let one = c.in_ok-serve_next.ensures in
    record {
      served = Serves-on g.F.Feed.meaning g.W.Service.service _ _ i.ready.at_end _ _ _ i.served one.served;
      ready = IsReady-on _ _ _ _ i.ready.at_end one.ready;
      serves = one.serves;
      fed = c.serve_next.ensures.fed ∙ i.fed;
      bytes = c.serve_next.ensures.total ∙ i.bytes;
      never_falls = omega (arith, i.never_falls, c.serve_next.ensures.faults.never_falls);
      file = c.serve_next.ensures.faults.file ∙ i.file;
      disk_faults = c.serve_next.ensures.faults.disk_faults ∙ i.disk_faults;
      reads = c.serve_next.ensures.faults.reads ∙ i.reads;
    }

pub returns-clause-served : goal.returns-clause-served
returns-clause-served g c =
    let i = c.loop.invariant in
    Serves-on g.F.Feed.meaning g.W.Service.service _ _ i.ready.at_end _ _ _ i.served c.in_ok-serve_next.ensures.served
