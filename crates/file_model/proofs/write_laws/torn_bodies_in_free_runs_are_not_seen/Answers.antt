use Rattle.file_model.proofs.BodyWrites.{bodies_torn}
use Rattle.file_model.proofs.write_laws.torn_bodies_in_free_runs_are_not_seen.Goals as goal

pub returns : goal.returns
returns c = bodies_torn
