use Rattle.std.proofs.Common.{◌≡◌, ◌∙◌, ap, refl}
use Rattle.std.specs.Str.{chars}
use Rattle.std.specs.Str.Iter.{chars_rest}
use Rattle.std.specs.Ordering.{nat_cmp}
use Rattle.std.specs.Cmp.Lexicographic.{slice_cmp}
use Rattle.std.proofs.lemmas.Iterator.{YieldsList-from_chars}
use Rattle.std.proofs.lemmas.Iterator.Search.{cmp_from_yields_List}
use Rattle.dets_term.proofs.text.Text.compare.Goals as goal

pub returns : goal.returns
returns c =
    cmp_from_yields_List (λ x y. y ≡ x) _ nat_cmp _ c.cmp.ensures.ran (YieldsList-from_chars c.as_str.result.now c.as_str.utf8 c.chars.ensures.rest)
    (λ it e. YieldsList-from_chars c.as_str-2.result.now c.as_str-2.utf8 (ap chars_rest e ∙ c.chars-2.ensures.rest)) (λ x y. refl)
    ∙ (λ i. slice_cmp nat_cmp ((ap chars c.as_str.ensures.value ∙ c.self.view_is) i) ((ap chars c.as_str-2.ensures.value ∙ c.other.view_is) i))
