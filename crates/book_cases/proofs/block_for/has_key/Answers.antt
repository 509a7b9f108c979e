use Rattle.std.proofs.Common.{◌≡◌, ◌∙◌, ap, sym, Some}
use Rattle.std.specs.Option.{option_copied}
use Rattle.term_model.specs.TermValue.{key}
use Rattle.book_cases.proofs.OneObject.{key_of_one}
use Rattle.book_cases.proofs.block_for.has_key.Goals as goal

pub returns-in-Some : goal.returns-in-Some
returns-in-Some c is =
    let found : key c.args.object.now c.args.head.now.keypos ≡ Some c.in-Some.found.now = sym c.key_of.ensures ∙ ap option_copied c.in-Some.is in
    key_of_one c.args.head.now.kind c.args.head.now.keypos c.args.object.now c.args.key.now (found ∙ ap Some (c.eq.ensures.0 is))
