use Rattle.std.proofs.Common.{◌≡◌, ◌∙◌, ap, refl, Option, Some, None, ℕ, slice_get, option_map}
use Rattle.std.specs.Str.{chars}
use Rattle.std.proofs.lemmas.Iterator.{YieldsList-from_chars}
use Rattle.std.proofs.lemmas.Iterator.Consumers.{nth_from_yields_List}
use Rattle.dets_term.proofs.text.Text.get.Goals as goal

same_option : (o : Option ℕ) → o ≡ option_map (λ x. x) o
same_option None = refl
same_option (Some x) = refl

pub returns : goal.returns
returns c =
    same_option c.nth.result
    ∙ nth_from_yields_List c.nth.result _ c.args.place c.nth.ensures.ran (YieldsList-from_chars c.as_str.result.now c.as_str.utf8 c.chars.ensures.rest)
    ∙ ap (λ cs. slice_get cs c.args.place) (ap chars c.as_str.ensures.value ∙ c.self.view_is)
