use Rattle.run_model.proofs.Replaced.{no_old_table, no_both_gates, no_no_gates, no_new_table}
use Rattle.run_model.proofs.history_rows.a_replaced_key_is_new_after_the_reply_of_its_sync.Goals as goal

pub returns-clause-old : goal.returns-clause-old
returns-clause-old c = no_old_table

pub returns-clause-both : goal.returns-clause-both
returns-clause-both c = no_both_gates

pub returns-clause-none : goal.returns-clause-none
returns-clause-none c = no_no_gates

pub returns-clause-too_early : goal.returns-clause-too_early
returns-clause-too_early c = no_new_table
