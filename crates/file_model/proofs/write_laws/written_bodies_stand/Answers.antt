use Rattle.file_model.proofs.BodyWrites.{bodies_stand}
use Rattle.file_model.proofs.write_laws.written_bodies_stand.Goals as goal

pub returns : goal.returns
returns c = bodies_stand
