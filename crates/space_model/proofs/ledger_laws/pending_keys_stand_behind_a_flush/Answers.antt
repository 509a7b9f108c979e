use Rattle.space_model.proofs.Flushing.{flushed_pending, flushed_other}
use Rattle.space_model.proofs.ledger_laws.pending_keys_stand_behind_a_flush.Goals as goal

pub returns-clause-pending : goal.returns-clause-pending
returns-clause-pending c = flushed_pending

pub returns-clause-others : goal.returns-clause-others
returns-clause-others c = flushed_other
