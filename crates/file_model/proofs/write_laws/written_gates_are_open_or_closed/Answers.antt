use Rattle.file_model.proofs.GateWrites.{gates_opened, gates_closed}
use Rattle.file_model.proofs.write_laws.written_gates_are_open_or_closed.Goals as goal

pub returns-clause-opened : goal.returns-clause-opened
returns-clause-opened c = gates_opened

pub returns-clause-closed : goal.returns-clause-closed
returns-clause-closed c = gates_closed
