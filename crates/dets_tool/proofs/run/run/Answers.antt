use Rattle.std.proofs.Common.{◌≡◌, ℕ, List, Option, ◌⊎◌, inl, inr, ap, ◌∙◌, sym, subst}
use Rattle.feed_model.specs.Meaning.{Meaning}
use Rattle.host_model.specs.Source.{Stream}
use Rattle.dets_tool.specs.declared.status.Status.{Status}
use Rattle.dets_tool.specs.declared.status.Status.TheVariants.{Memory}
use Rattle.dets_tool.specs.Service.{Service}
use Rattle.dets_tool.specs.Status.{status_of_run}
use Rattle.dets_tool.specs.Run.{Ran}
use Rattle.dets_tool.proofs.Runs.{ran_without_memory}
use Rattle.dets_tool.proofs.run.run.Goals.{in-Ok, in-Err}
use Rattle.dets_tool.proofs.run.run.Goals as goal

-- what is said behind the last term leaves the end, or finds no memory
at_close : {F S : Type 0} (m : Meaning F) (told : F → ℕ → Status) (service : Service S) (status end : Status) (input : List ℕ) (after : Option Stream)
    (said now : Option (List ℕ)) → (status ≡ end) ⊎ (status ≡ Memory) → Ran m told service end input after said now
    → Ran m told service status input after said now
at_close m told service status end input after said now (inl e) r = subst (λ (s : Status). Ran m told service s input after said now) (sym e) r
at_close m told service status end input after said now (inr e) r =
    subst (λ (s : Status). Ran m told service s input after said now) (sym e) (ran_without_memory m told service end input after said now r)

pub returns-clause-ran : goal.returns-clause-ran
returns-clause-ran g c = λ stream told ended.
    let end : status_of_run c.serve_input.result ≡ c.match-serve_input.end = elim c.match-serve_input.branch [
      | in-Ok w ↦ ap status_of_run w.in-Ok.is ∙ sym w.end-is
      | in-Err w ↦ ap status_of_run w.in-Err.is ∙ sym w.end-is
    ] in
    at_close g.F.Feed.meaning g.F.Input.told g.W.Service.service _ _ _ _ _ _ c.close.ensures.end
    (subst (λ h. Ran g.F.Feed.meaning g.F.Input.told g.W.Service.service c.match-serve_input.end stream.left (g.S.Source.told c.serve_input.new.source)
    (g.H.Host.shows c.args.host.now).said (g.H.Host.shows h).said) (sym c.close.ensures.host)
    (subst (λ (s : Status). Ran g.F.Feed.meaning g.F.Input.told g.W.Service.service s stream.left (g.S.Source.told c.serve_input.new.source)
    (g.H.Host.shows c.args.host.now).said (g.H.Host.shows c.serve_input.new.host).said) end
    (c.serve_input.ensures.ran stream told ended)))

pub returns-clause-no_source_fault : goal.returns-clause-no_source_fault
returns-clause-no_source_fault g c = λ not_source not_memory.
    let end : status_of_run c.serve_input.result ≡ c.match-serve_input.end = elim c.match-serve_input.branch [
      | in-Ok w ↦ ap status_of_run w.in-Ok.is ∙ sym w.end-is
      | in-Err w ↦ ap status_of_run w.in-Err.is ∙ sym w.end-is
    ] in
    elim c.close.ensures.end [
      | inl e ↦ c.serve_input.ensures.no_source_fault (λ f. not_source (e ∙ sym end ∙ ap status_of_run f))
      | inr e ↦ absurd (not_memory e)
    ]
