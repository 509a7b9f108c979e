use Rattle.space_model.proofs.Serving.{serve_full}
use Rattle.space_model.proofs.Commands.{full_at}
use Rattle.space_model.proofs.ledger_laws.a_key_is_full_without_a_place.Goals as goal

pub returns-clause-touch : goal.returns-clause-touch
returns-clause-touch c = serve_full

pub returns-clause-command : goal.returns-clause-command
returns-clause-command c = full_at
