use Rattle.std.proofs.Common.{arith}
use Rattle.etf_codec.proofs.HeadSteps.{tuple_opens}
use Rattle.etf_codec.proofs.head.tuple_head.Goals as goal

pub returns-clause-reads : goal.returns-clause-reads
returns-clause-reads c =
    tuple_opens c.args.levels c.args.size c.args.start c.in_ok-count.count c.args.cursor.now c.count.new.self c.new-2.result c.in_ok-count.ensures.reads
    (omega arith) c.new-2.ensures
