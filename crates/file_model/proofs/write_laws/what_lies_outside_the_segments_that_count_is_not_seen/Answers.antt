use Rattle.file_model.proofs.Outside.{outside_same, counted_still, head_by_page}
use Rattle.file_model.proofs.write_laws.what_lies_outside_the_segments_that_count_is_not_seen.Goals as goal

pub returns-clause-seen : goal.returns-clause-seen
returns-clause-seen c = outside_same

pub returns-clause-counted : goal.returns-clause-counted
returns-clause-counted c = counted_still

pub returns-clause-header : goal.returns-clause-header
returns-clause-header c = head_by_page
