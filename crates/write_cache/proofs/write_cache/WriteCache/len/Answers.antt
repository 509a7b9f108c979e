use Rattle.write_cache.proofs.Seen.{distinct_seen}
use Rattle.write_cache.proofs.write_cache.WriteCache.len.Goals as goal

pub returns-clause-distinct : goal.returns-clause-distinct
returns-clause-distinct c = rw (← c.self.view_is) (distinct_seen (λ k. k.items) c.self.inside.states.entries c.len.ensures.unique)
