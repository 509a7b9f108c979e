use Rattle.std.proofs.Common.{subst, sym}
use Rattle.text_nest.specs.Fits.{PairsFit}
use Rattle.text_nest.proofs.Closings.{pairs_with}
use Rattle.text_nest.proofs.closing.map_with.Goals as goal

pub map_of-requires : goal.map_of-requires
map_of-requires c = subst PairsFit (sym c.in_ok-insert.ensures.ok) (pairs_with c.args.pairs c.args.key c.args.value c.requires.pairs c.requires.value)
