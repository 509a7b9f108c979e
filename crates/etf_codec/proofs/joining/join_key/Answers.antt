use Rattle.std.proofs.Common.{sym}
use Rattle.etf_codec.proofs.Resuming.{key_new}
use Rattle.etf_codec.proofs.joining.join_key.Goals as goal

pub returns-clause-joins : goal.returns-clause-joins
returns-clause-joins c begun position =
    key_new c.args.ahead c.args.start c.args.at c.args.pairs c.args.key begun position (sym c.if-has_key.ensures)
