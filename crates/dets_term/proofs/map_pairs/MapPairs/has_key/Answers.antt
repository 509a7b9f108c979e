use Rattle.std.proofs.Common.{◌∙◌, ap}
use Rattle.std.specs.List.{list_any}
use Rattle.term_model.specs.Order.{is_same}
use Rattle.term_model.specs.Pairs.{keys}
use Rattle.dets_term.proofs.SortedPairs.{lookup-keys}
use Rattle.dets_term.proofs.map_pairs.MapPairs.has_key.Goals as goal

pub returns : goal.returns
returns c =
    c.contains_key.ensures ∙ lookup-keys c.args.key.now c.self.inside.sorted.entries ∙ ap (λ es. list_any (is_same c.args.key.now) (keys es)) c.self.view_is
