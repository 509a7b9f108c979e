use Rattle.space_model.proofs.Serving.{serve_order}
use Rattle.space_model.proofs.Commands.{made_order, command_order}
use Rattle.space_model.proofs.Flushing.{flush_order, flush_at_limit_order}
use Rattle.space_model.proofs.ledger_laws.a_ledger_stays_in_order.Goals as goal

pub returns-clause-made : goal.returns-clause-made
returns-clause-made c = made_order

pub returns-clause-touch : goal.returns-clause-touch
returns-clause-touch c = serve_order

pub returns-clause-command : goal.returns-clause-command
returns-clause-command c = λ segment_units touches l. command_order segment_units touches l

pub returns-clause-flushed : goal.returns-clause-flushed
returns-clause-flushed c = flush_order

pub returns-clause-flushed_at_limit : goal.returns-clause-flushed_at_limit
returns-clause-flushed_at_limit c = flush_at_limit_order
