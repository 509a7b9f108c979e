use Rattle.file_model.proofs.HeaderFound.{located_head, located_fault}
use Rattle.file_model.proofs.laws.a_header_is_located_where_it_is_read.Goals as goal

pub returns-clause-head : goal.returns-clause-head
returns-clause-head c = located_head

pub returns-clause-fault : goal.returns-clause-fault
returns-clause-fault c = located_fault
