use Rattle.std.proofs.Common.{◌^◌}
use Rattle.text_nest.specs.NestView.{nest_of}
use Rattle.term_text.proofs.FitSteps.{name_fits}
use Rattle.term_text.proofs.reader.Reader.end_name.Goals as goal

pub begin-requires-clause-fits : goal.begin-requires-clause-fits
begin-requires-clause-fits c =
    name_fits (2 ^ 24) c.args.start (nest_of c.args.self.now.nest) (nest_of c.take_atom.new.self) c.args.name c.requires.fits c.in-Ok.ensures.ok
