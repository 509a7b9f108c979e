use Rattle.std.proofs.Common.{sym, ◌∙◌}
use Rattle.write_cache.proofs.Seen.{state_of-seen}
use Rattle.write_cache.proofs.write_cache.WriteCache.get.Goals as goal

pub returns : goal.returns
returns c = rw (← c.self.view_is) (c.get.ensures.value ∙ sym (state_of-seen (λ k. k.items) _ c.args.key.now))
