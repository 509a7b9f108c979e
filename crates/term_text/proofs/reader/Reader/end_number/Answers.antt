use Rattle.std.proofs.Common.{◌≡◌, ◌^◌, Ok, rules}
use Rattle.text_model.specs.Token.{number}
use Rattle.text_model.specs.Grammar.{strict}
use Rattle.text_model.specs.Nest.{take}
use Rattle.text_nest.specs.NestView.{nest_of}
use Rattle.term_text.proofs.FitSteps.{number_fits}
use Rattle.term_text.proofs.reader.Reader.end_number.Goals as goal

pub begin-requires-clause-fits : goal.begin-requires-clause-fits
begin-requires-clause-fits c =
    let taken : take strict (nest_of c.args.self.now.nest) c.args.start (number c.args.number.value) ≡ Ok (nest_of c.take_number.new.self) =
    let h = c.in-Ok.ensures.ok in search rules in
    number_fits (2 ^ 24) c.args.start (nest_of c.args.self.now.nest) (nest_of c.take_number.new.self) c.args.number.is_negative
    c.args.number.value c.requires.fits
    taken
