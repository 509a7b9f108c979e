use Rattle.space_model.proofs.Serving.{serve_only}
use Rattle.space_model.proofs.Commands.{all_only}
use Rattle.space_model.proofs.ledger_laws.serving_leaves_standing_keys.Goals as goal

pub returns-clause-touch : goal.returns-clause-touch
returns-clause-touch c = serve_only

pub returns-clause-command : goal.returns-clause-command
returns-clause-command c = all_only
