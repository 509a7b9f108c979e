use Rattle.std.proofs.Common.{subst}
use Rattle.term_model.specs.IsTerm.{AreAscending}
use Rattle.term_model.specs.Pairs.{keys}
use Rattle.dets_term.proofs.SortedPairs.{sorted-ascending}
use Rattle.dets_term.proofs.map_pairs.MapPairs.into_pairs.Goals as goal

pub returns-in_err-push-clause-ascending : goal.returns-in_err-push-clause-ascending
returns-in_err-push-clause-ascending c =
    subst (λ es. AreAscending (keys es)) c.self.view_is (sorted-ascending (keys c.self.inside.sorted.entries) c.len-count.ensures.ordered)

pub returns-clause-ascending : goal.returns-clause-ascending
returns-clause-ascending c =
    subst (λ es. AreAscending (keys es)) c.self.view_is (sorted-ascending (keys c.self.inside.sorted.entries) c.len-count.ensures.ordered)
