use Rattle.file_model.proofs.GateWrites.{gates_torn, seen_by_gates, opens_some, closes_some}
use Rattle.file_model.proofs.write_laws.torn_gates_open_or_close_some.Goals as goal

pub returns-clause-torn : goal.returns-clause-torn
returns-clause-torn c = gates_torn

pub returns-clause-seen : goal.returns-clause-seen
returns-clause-seen c = seen_by_gates

pub returns-clause-opening : goal.returns-clause-opening
returns-clause-opening c = opens_some

pub returns-clause-closing : goal.returns-clause-closing
returns-clause-closing c = closes_some
