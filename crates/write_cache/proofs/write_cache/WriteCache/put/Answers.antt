use Rattle.std.proofs.Common.{◌≡◌, ◌<◌, ◌^◌, ap, sym, ◌∙◌, arith}
use Rattle.write_cache.specs.PendingState.{block_length, old_length}
use Rattle.write_cache.specs.Waiting.{state_of, seen}
use Rattle.write_cache.proofs.Exits.{on_err}
use Rattle.write_cache.proofs.Seen.{length-seen, state_of-seen, seen-insert_entry, distinct_seen}
use Rattle.write_cache.proofs.Totals.{bytes_of-le, bytes_of-with_state, kept-with_state}
use Rattle.write_cache.proofs.write_cache.WriteCache.put.Goals as goal

pub overflow_add-with_both : goal.overflow_add-with_both
overflow_add-with_both c =
    let few = bytes_of-le (seen c.self.inside.states.entries (λ k. k.items)) c.self.invariant.short in
    let count = length-seen (λ k. k.items) c.self.inside.states.entries in
    omega (arith, few, count)

pub returns-in_err-old-clause-absent : goal.returns-in_err-old-clause-absent
returns-in_err-old-clause-absent c = on_err c.from_residual.result
    (rw (← c.self.view_is, ← c.into_vec.ensures) (state_of-seen (λ k. k.items) c.self.inside.states.entries _ ∙ c.in_err-old.ensures.absent))

pub returns-in_err-old-clause-distinct : goal.returns-in_err-old-clause-distinct
returns-in_err-old-clause-distinct c = distinct_seen (λ k. k.items) c.insert.new.self.entries c.in_err-old.ensures.unique

pub overflow_sub-self : goal.overflow_sub-self
overflow_sub-self c =
    let was : c.old_length.result ≡ old_length (state_of (seen c.self.inside.states.entries (λ k. k.items)) c.into_vec.result.items) =
    c.old_length.ensures ∙ ap old_length (c.in_ok-old.ensures.old ∙ sym (state_of-seen (λ k. k.items) c.self.inside.states.entries _)) in
    let put = bytes_of-with_state (seen c.self.inside.states.entries (λ k. k.items)) c.into_vec.result.items c.args.state in
    omega (arith, was, put)

pub invariant_of-self-2 : goal.invariant_of-self-2
invariant_of-self-2 c =
    let was : c.old_length.result ≡ old_length (state_of (seen c.self.inside.states.entries (λ k. k.items)) c.into_vec.result.items) =
    c.old_length.ensures ∙ ap old_length (c.in_ok-old.ensures.old ∙ sym (state_of-seen (λ k. k.items) c.self.inside.states.entries _)) in
    let short : block_length c.args.state < 2 ^ 64 = omega arith in
    rw (c.in_ok-old.ensures.entries, seen-insert_entry (λ k. k.items) c.self.inside.states.entries c.into_vec.result c.args.state, was, c.block_length-length.ensures)
    (kept-with_state _ _ _ c.args.state c.self.invariant short)

pub returns-clause-ok : goal.returns-clause-ok
returns-clause-ok c =
    rw (c.in_ok-old.ensures.entries, ← c.self.view_is, ← c.into_vec.ensures)
    (seen-insert_entry (λ k. k.items) c.self.inside.states.entries c.into_vec.result c.args.state)

pub returns-clause-distinct : goal.returns-clause-distinct
returns-clause-distinct c = distinct_seen (λ k. k.items) c.insert.new.self.entries c.in_ok-old.ensures.unique
