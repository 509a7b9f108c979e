use Rattle.flush_steps.proofs.Whole.{news_whole}
use Rattle.flush_steps.proofs.laws.a_file_that_may_be_flushed_has_whole_segments.Goals as goal

pub returns-clause-new : goal.returns-clause-new
returns-clause-new c n h bodies olds file some may = news_whole n bodies file may.room
