use Rattle.etf_codec.proofs.Bytes.{times_byte_at, times_byte_at_end}
use Rattle.etf_codec.proofs.cursor.Cursor.take.Goals as goal

pub returns-then-left-count-clause-err : goal.returns-then-left-count-clause-err
returns-then-left-count-clause-err c term =
    times_byte_at_end c.self.inside.start c.args.count c.self.inside.at term c.self.inside.bytes.now _ c.self.view_is c.if-left-count.true

pub returns-clause-ok : goal.returns-clause-ok
returns-clause-ok c term = times_byte_at c.self.inside.start c.args.count c.self.inside.at term c.self.inside.bytes.now _ c.self.view_is c.if-left-count.false
