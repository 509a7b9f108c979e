use Rattle.std.proofs.Common.{subst, sym}
use Rattle.text_nest.specs.Fits.{PartsFit}
use Rattle.text_nest.proofs.Closings.{parts_with}
use Rattle.text_nest.proofs.closing.list_with.Goals as goal

pub list_of-requires : goal.list_of-requires
list_of-requires c = subst PartsFit (sym c.in_ok-push.ensures.ok) (parts_with c.args.parts c.args.part c.requires.parts c.requires.part)
