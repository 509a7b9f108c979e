use Rattle.std.proofs.Common.{◌∙◌, ap, subst, sym, ◌≡◌, false}
use Rattle.std.specs.List.{list_any}
use Rattle.term_model.specs.Order.{is_same}
use Rattle.term_model.specs.Pairs.{keys, placed}
use Rattle.dets_term.proofs.SortedPairs.{insert_entry-placed}
use Rattle.dets_term.proofs.map_pairs.MapPairs.insert.Goals as goal

pub returns-clause-ok : goal.returns-clause-ok
returns-clause-ok c =
    c.in_ok-insert.ensures.entries
    ∙ insert_entry-placed c.args.key c.args.value c.self.inside.sorted.entries
    (subst (λ es. list_any (is_same c.args.key) (keys es) ≡ false) (sym c.self.view_is) c.requires)
    ∙ ap (placed (c.args.key, c.args.value)) c.self.view_is
