use Rattle.file_model.proofs.OldOrNew.{while_opening, while_closing}
use Rattle.file_model.proofs.laws.while_gates_change_each_key_has_its_old_or_its_new_objects.Goals as goal

pub returns-clause-opening : goal.returns-clause-opening
returns-clause-opening c = while_opening

pub returns-clause-closing : goal.returns-clause-closing
returns-clause-closing c = while_closing
