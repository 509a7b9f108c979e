use Rattle.std.proofs.Common.{Ok, Err, ap, ◌∙◌}
use Rattle.std.proofs.lemmas.Result.{err_from_is_err_and}
use Rattle.feed_model.specs.declared.fed.Fed.TheVariants.{Term, Again, End}
use Rattle.feed_model.specs.Feed.{Feed}
use Rattle.dets_tool.specs.Serving.{at_term}
use Rattle.dets_tool.proofs.Serving.{Serves-none, Serves-same, Serves-one, IsUnserved-left, gives_now, fault_stops}
use Rattle.dets_tool.proofs.run.InputRun.serve_next.Goals as goal

pub returns-in_err-serve-in-Ok-Term-clause-breaks :
    goal.returns-in_err-serve-in-Ok-Term-clause-breaks
returns-in_err-serve-in-Ok-Term-clause-breaks g c =
    let p = err_from_is_err_and c.from_residual.result c.from_residual.ensures.1 in
    let given = gives_now g.F.Feed.meaning _ _ _ (Ok (Term c.in-Ok-Term.term)) c.requires.ready.no_fault c.next.ensures.next
    (c.in-Ok-Term.is ∙ ap Ok c.in-Ok-Term.field-0-is) in
    rw (p.1, p.2) (record {
      here = _;
      served = Serves-none g.F.Feed.meaning g.W.Service.service _ _;
      stops = at_term _ c.in-Ok-Term.term given.0 given.1 (IsUnserved-left g.W.Service.service _ _ _ _ _ _ c.in_err-serve-in-Ok-Term.ensures.unserved);
    })

pub returns-in_ok-serve-in-Ok-Term-clause-served :
    goal.returns-in_ok-serve-in-Ok-Term-clause-served
returns-in_ok-serve-in-Ok-Term-clause-served g c =
    let given = gives_now g.F.Feed.meaning _ _ _ (Ok (Term c.in-Ok-Term.term)) c.requires.ready.no_fault c.next.ensures.next
    (c.in-Ok-Term.is ∙ ap Ok c.in-Ok-Term.field-0-is) in
    Serves-one g.F.Feed.meaning g.W.Service.service g.met.F.Feed.steady _ _ _ _ _ c.in-Ok-Term.term given.0 given.1
    (ap (λ (s : Feed g.row.F-Fault.Denot). s.left) given.2) (ap (λ (s : Feed g.row.F-Fault.Denot). s.offset) given.2)
    c.in_ok-serve-in-Ok-Term.ensures.served

pub returns-in-Ok-Again-clause-served : goal.returns-in-Ok-Again-clause-served
returns-in-Ok-Again-clause-served g c =
    let given = gives_now g.F.Feed.meaning _ _ _ (Ok Again) c.requires.ready.no_fault c.next.ensures.next
    (c.in-Ok-Again.is ∙ ap Ok c.in-Ok-Again.field-0-is) in
    Serves-same g.F.Feed.meaning g.W.Service.service _ _ _ _ c.args.self.now.answered (g.H.Host.shows c.args.host.now) given.1

pub returns-in-Ok-End-clause-served : goal.returns-in-Ok-End-clause-served
returns-in-Ok-End-clause-served g c =
    let given = gives_now g.F.Feed.meaning _ _ _ (Ok End) c.requires.ready.no_fault c.next.ensures.next
    (c.in-Ok-End.is ∙ ap Ok c.in-Ok-End.field-0-is) in
    Serves-same g.F.Feed.meaning g.W.Service.service _ _ _ _ c.args.self.now.answered (g.H.Host.shows c.args.host.now) given.1

pub returns-in-Err-clause-breaks : goal.returns-in-Err-clause-breaks
returns-in-Err-clause-breaks g c =
    let given = gives_now g.F.Feed.meaning _ _ _ (Err c.in-Err.fault) c.requires.ready.no_fault c.next.ensures.next c.in-Err.is in
    record {
      here = _;
      served = Serves-none g.F.Feed.meaning g.W.Service.service _ _;
      stops = fault_stops g.F.Feed.meaning g.F.Input.told g.W.Service.service g.met.F.Input.of_memory _ _ _ _ _ (g.H.Host.shows c.args.host.now)
          c.in-Err.fault c.status.result
          c.requires.fed c.status.ensures given;
    }
