use Rattle.repair_scan.proofs.Counted.{in_file, counted_whole}
use Rattle.repair_scan.proofs.laws.the_segments_that_count_lie_in_the_file.Goals as goal

pub returns-clause-counted : goal.returns-clause-counted
returns-clause-counted c f l e = in_file f l (c.a_header_is_located_where_it_is_read.ensures.head f l e)

pub returns-clause-end : goal.returns-clause-end
returns-clause-end c f l e = counted_whole f l (c.a_header_is_located_where_it_is_read.ensures.head f l e)
