use Rattle.file_model.proofs.Flush.{is_flushed}
use Rattle.file_model.proofs.flush_laws.after_a_flush_each_key_has_its_new_objects.Goals as goal

pub returns : goal.returns
returns c = is_flushed
