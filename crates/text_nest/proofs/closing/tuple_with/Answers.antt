use Rattle.std.proofs.Common.{subst, sym}
use Rattle.text_nest.specs.Fits.{PartsFit}
use Rattle.text_nest.proofs.Closings.{parts_with}
use Rattle.text_nest.proofs.closing.tuple_with.Goals as goal

pub tuple_of-requires : goal.tuple_of-requires
tuple_of-requires c = subst PartsFit (sym c.in_ok-push.ensures.ok) (parts_with c.args.parts c.args.part c.requires.parts c.requires.part)
