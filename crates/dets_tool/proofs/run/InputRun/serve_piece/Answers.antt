use Rattle.std.proofs.Common.{refl}
use Rattle.std.proofs.lemmas.Result.{err_from_is_err_and}
use Rattle.dets_tool.specs.Serving.{at_memory}
use Rattle.dets_tool.proofs.Serving.{Serves-none}
use Rattle.dets_tool.proofs.run.InputRun.serve_piece.Goals as goal

pub returns-in_err-feed-clause-breaks : goal.returns-in_err-feed-clause-breaks
returns-in_err-feed-clause-breaks g c =
    let p = err_from_is_err_and c.from_residual.result c.from_residual.ensures.1 in
    rw (p.1, p.2) (record { here = _; served = Serves-none g.F.Feed.meaning g.W.Service.service _ _; stops = at_memory refl })
