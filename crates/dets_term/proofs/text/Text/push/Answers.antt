use Rattle.std.proofs.Common.{ap, ◌∙◌, ◌++◌, ◌∷◌, []}
use Rattle.std.specs.Str.{chars}
use Rattle.std.proofs.lemmas.Str.{IsUtf8-string_bytes}
use Rattle.dets_term.proofs.Texts.{chars-push}
use Rattle.dets_term.proofs.text.Text.push.Goals as goal

pub returns-clause-ok : goal.returns-clause-ok
returns-clause-ok c =
    ap chars c.in_ok-push.ensures.bytes ∙ chars-push _ c.args.item (IsUtf8-string_bytes c.self.inside.utf8) c.ranges.item.0
    ∙ ap (λ cs. cs ++ c.args.item ∷ []) c.self.view_is
