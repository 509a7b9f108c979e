-- The pieces are said again up to the stop.
use Rattle.std.proofs.Common.{◌≡◌, ◌∙◌, ap, sym, take, rules}
use Rattle.host_model.specs.Calls.{said_after}
use Rattle.host_model.specs.Log.{newest_first}
use Rattle.host_model.specs.Restart.{output_at, moment}
use Rattle.host_model.proofs.Moments.{output_old, output_whole}
use Rattle.host_model.proofs.restart.output_after.Goals as goal
use Rattle.host_model.proofs.restart.output_after.Goals.{in-Old, in_default}

pub returns : goal.returns
returns c =
    let first : c.in_ok-said.said.items ≡ c.args.first.now = search rules in
    c.in_ok-say_again.ensures ∙ ap (λ f. said_after f (newest_first (take c.match-pick.end c.args.calls.now))) first
    ∙ elim c.match-pick.branch [
      | in-Old w ↦
          ap (λ n. said_after c.args.first.now (newest_first (take n c.args.calls.now))) w.end-is
          ∙ output_old c.args.first.now c.args.calls.now c.args.at c.requires
          ∙ ap (λ p. output_at p c.args.first.now (moment c.args.at (newest_first c.args.calls.now))) (sym w.in-Old.is)
      | in_default w ↦
          ap (λ n. said_after c.args.first.now (newest_first (take n c.args.calls.now))) w.end-is
          ∙ output_whole c.args.pick c.args.first.now c.args.calls.now c.args.at w.stop_end-end.result c.requires w.stop_end-end.ensures w.in_default.not-Old
    ]
