use Rattle.space_model.proofs.Served.{served_packed, served_none, served_other, served_order}
use Rattle.space_model.proofs.ledger_laws.a_served_key_has_its_new_block.Goals as goal

pub returns-clause-block : goal.returns-clause-block
returns-clause-block c = served_packed

pub returns-clause-removed : goal.returns-clause-removed
returns-clause-removed c = served_none

pub returns-clause-others : goal.returns-clause-others
returns-clause-others c = served_other

pub returns-clause-order : goal.returns-clause-order
returns-clause-order c = served_order
