use Rattle.std.proofs.Common.{sym, subst, ◌∙◌}
use Rattle.std.proofs.lemmas.Bool.{eq-eqb}
use Rattle.std.proofs.lemmas.Result.{on_ok_weaker}
use Rattle.repair_scan.specs.Candidates.{IsRead}
use Rattle.repair_scan.proofs.Steps.{past_open}
use Rattle.repair_scan.proofs.segment.judge_unit.Goals as goal

pub returns-clause-goes_on : goal.returns-clause-goes_on
returns-clause-goes_on c =
    let opened = c.if-gate-ne-OPEN.false in
    on_ok_weaker c.add.result
    (λ judges v shows p. past_open c.open_units_follow_one_another.ensures v c.args.unit shows.inside c.args.judge.now c.add.new.self
    (shows.gate_is ∙ eq-eqb c.args.gate 165 opened) p
    (judges p.below (v.stands c.args.unit) p.reflects
    (subst (IsRead c.args.unit c.in_ok-found.found) (sym (shows.behind opened)) c.in_ok-found.ensures)))
    c.add.ensures.judges
