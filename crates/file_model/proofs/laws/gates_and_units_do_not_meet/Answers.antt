use Rattle.file_model.specs.LayoutLaws.{gates_apart, gate_apart_from_unit, runs_apart, run_ends, unit_whole}
use Rattle.file_model.proofs.laws.gates_and_units_do_not_meet.Goals as goal

pub returns-clause-gates : goal.returns-clause-gates
returns-clause-gates c = gates_apart

pub returns-clause-gate_and_unit : goal.returns-clause-gate_and_unit
returns-clause-gate_and_unit c = gate_apart_from_unit

pub returns-clause-runs : goal.returns-clause-runs
returns-clause-runs c = runs_apart

pub returns-clause-aligned : goal.returns-clause-aligned
returns-clause-aligned c = run_ends

pub returns-clause-whole : goal.returns-clause-whole
returns-clause-whole c = unit_whole
