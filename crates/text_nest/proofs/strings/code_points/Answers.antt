use Rattle.std.proofs.Common.{◌≡◌, ◌∙◌, sym, subst}
use Rattle.std.proofs.lemmas.Iterator.{YieldsList-from_chars}
use Rattle.std.proofs.lemmas.Iterator.Consumers.{YieldsList-end}
use Rattle.std.proofs.lemmas.List.{map-id}
use Rattle.text_nest.specs.Fits.{PartsFit}
use Rattle.text_nest.proofs.Closings.{integers_fit, list_is}
use Rattle.text_nest.proofs.strings.code_points.Goals as goal

pub list_of-requires : goal.list_of-requires
list_of-requires c =
    let ended = YieldsList-end (YieldsList-from_chars c.as_str.result.now c.as_str.utf8 cc)
    c.loop-character.yielded _ c.loop-character.yielded_by _ _ c.in-None.is
    c.next.ensures.steps in
    let all : c.loop-character.yielded ≡ c.args.text.now = sym (map-id c.loop-character.yielded) ∙ ended.0 ∙ c.as_str.ensures in
    subst PartsFit (sym c.loop-character.invariant) (integers_fit c.loop-character.yielded c.args.text.now all c.requires)

pub returns : goal.returns
returns c =
    let ended = YieldsList-end (YieldsList-from_chars c.as_str.result.now c.as_str.utf8 cc)
    c.loop-character.yielded _ c.loop-character.yielded_by _ _ c.in-None.is
    c.next.ensures.steps in
    let all : c.loop-character.yielded ≡ c.args.text.now = sym (map-id c.loop-character.yielded) ∙ ended.0 ∙ c.as_str.ensures in
    list_is c.list_of.result c.loop-character.parts c.loop-character.yielded c.args.text.now c.loop-character.invariant all c.list_of.ensures
