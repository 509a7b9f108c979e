use Rattle.std.proofs.Common.{ap, sym, ◌∙◌}
use Rattle.std.specs.Prelude.{option_map}
use Rattle.write_cache.proofs.Seen.{state_at-seen}
use Rattle.write_cache.proofs.write_cache.WriteCache.at.Goals as goal

pub returns : goal.returns
returns c =
    rw (← c.self.view_is) (ap (option_map (λ e. e.1)) c.in_ok-state.ensures.entry
    ∙ sym (state_at-seen (λ k. k.items) c.self.inside.states.entries c.args.place))
