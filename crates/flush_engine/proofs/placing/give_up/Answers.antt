use Rattle.std.proofs.Common.{◌∙◌, sym}
use Rattle.std.specs.Option.{option_copied}
use Rattle.flush_engine.specs.Placing.{block_of}
use Rattle.flush_engine.proofs.Others.{others-stay}
use Rattle.flush_engine.proofs.placing.give_up.Goals as goal

pub returns-in-Some-clause-others : goal.returns-in-Some-clause-others
returns-in-Some-clause-others c = λ r a other.
    others-stay (block_of (option_copied c.args.earlier)) c.args.space.now c.give.new.self r c.in-Some.unit c.in-Some.exp
    (sym c.in-Some.is ∙ c.pending_run.ensures) c.give.ensures.given a other
