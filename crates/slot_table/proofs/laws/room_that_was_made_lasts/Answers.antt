use Rattle.slot_table.proofs.Steps.{room_first, room_rest, room_more}
use Rattle.slot_table.proofs.laws.room_that_was_made_lasts.Goals as goal

pub returns-clause-first : goal.returns-clause-first
returns-clause-first c = room_first

pub returns-clause-rest : goal.returns-clause-rest
returns-clause-rest c = room_rest

pub returns-clause-more : goal.returns-clause-more
returns-clause-more c = room_more
