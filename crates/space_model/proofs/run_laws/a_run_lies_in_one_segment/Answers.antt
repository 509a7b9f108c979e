use Rattle.space_model.proofs.Segments.{run_in_segment}
use Rattle.space_model.proofs.run_laws.a_run_lies_in_one_segment.Goals as goal

pub returns : goal.returns
returns c = run_in_segment
