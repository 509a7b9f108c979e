use Rattle.host_model.specs.Writes.{with_writes}
use Rattle.host_model.specs.WritesLaws.{DiffersIn-writes, length_kept}
use Rattle.host_model.proofs.laws.writes_inside_a_file_keep_its_length.Goals as goal

pub returns-clause-torn : goal.returns-clause-torn
returns-clause-torn c = length_kept

pub returns-clause-written : goal.returns-clause-written
returns-clause-written c writes file inside begins =
    length_kept writes file (with_writes writes file) inside (DiffersIn-writes writes file begins)
