use Rattle.host_model.specs.WritesLaws.{slice_range-written, ReadBack-writes}
use Rattle.host_model.proofs.laws.what_was_written_reads_back.Goals as goal

pub returns-clause-one : goal.returns-clause-one
returns-clause-one c = slice_range-written

pub returns-clause-each : goal.returns-clause-each
returns-clause-each c = ReadBack-writes
