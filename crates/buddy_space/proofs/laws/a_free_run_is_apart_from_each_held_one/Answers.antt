use Rattle.buddy_space.proofs.States.{free_is_run, free_is_apart, run_is_free}
use Rattle.buddy_space.proofs.laws.a_free_run_is_apart_from_each_held_one.Goals as goal

pub returns-clause-is_run : goal.returns-clause-is_run
returns-clause-is_run c = free_is_run

pub returns-clause-apart : goal.returns-clause-apart
returns-clause-apart c = free_is_apart

pub returns-clause-free : goal.returns-clause-free
returns-clause-free c = run_is_free
