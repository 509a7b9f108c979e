use Rattle.space_model.proofs.Places.{place_is_run}
use Rattle.space_model.proofs.run_laws.a_place_is_a_free_run.Goals as goal

pub returns-clause-is_run : goal.returns-clause-is_run
returns-clause-is_run c = place_is_run
