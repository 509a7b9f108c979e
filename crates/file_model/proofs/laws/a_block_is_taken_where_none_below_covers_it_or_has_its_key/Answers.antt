use Rattle.file_model.proofs.Judged.{taken_are_taken, takes, is_taken, is_reason}
use Rattle.file_model.proofs.laws.a_block_is_taken_where_none_below_covers_it_or_has_its_key.Goals as goal

pub returns-clause-taken : goal.returns-clause-taken
returns-clause-taken c = taken_are_taken

pub returns-clause-takes : goal.returns-clause-takes
returns-clause-takes c = takes

pub returns-clause-only : goal.returns-clause-only
returns-clause-only c = is_taken

pub returns-clause-reason : goal.returns-clause-reason
returns-clause-reason c = is_reason
