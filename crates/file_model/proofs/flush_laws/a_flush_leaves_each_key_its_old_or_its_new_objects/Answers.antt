use Rattle.file_model.proofs.Flush.{while_bodies, while_news, while_olds}
use Rattle.file_model.proofs.flush_laws.a_flush_leaves_each_key_its_old_or_its_new_objects.Goals as goal

pub returns-clause-bodies : goal.returns-clause-bodies
returns-clause-bodies c = while_bodies

pub returns-clause-opening : goal.returns-clause-opening
returns-clause-opening c = while_news

pub returns-clause-closing : goal.returns-clause-closing
returns-clause-closing c = while_olds
