use Rattle.file_model.proofs.Repair.{while_closing_rejects, blocks_while_closing, rejects_closed}
use Rattle.file_model.proofs.repair_laws.a_repair_keeps_the_table_and_ends_without_rejects.Goals as goal

pub returns-clause-any_moment : goal.returns-clause-any_moment
returns-clause-any_moment c = while_closing_rejects

pub returns-clause-blocks : goal.returns-clause-blocks
returns-clause-blocks c = blocks_while_closing

pub returns-clause-end : goal.returns-clause-end
returns-clause-end c = rejects_closed
