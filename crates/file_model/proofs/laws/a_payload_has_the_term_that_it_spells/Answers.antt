use Rattle.file_model.proofs.Payload.{term_from_spelling, spelling_from_term}
use Rattle.file_model.proofs.laws.a_payload_has_the_term_that_it_spells.Goals as goal

pub returns-clause-read : goal.returns-clause-read
returns-clause-read c = term_from_spelling

pub returns-clause-spelled : goal.returns-clause-spelled
returns-clause-spelled c = spelling_from_term
