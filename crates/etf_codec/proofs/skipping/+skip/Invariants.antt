use Rattle.std.proofs.Common.{ℕ, ◌+◌, ◌-◌, ◌*◌, ◌≡◌}
use Rattle.etf_model.specs.Skipping.{parts, skipped_at}
use Rattle.etf_codec.proofs.skipping.+skip.Given as goal

-- levels, and within a level the calls in their order
abbrev pub decreases-skip_term : goal.decreases-skip_term
decreases-skip_term l = 4 * l.levels

abbrev pub decreases-skip_tagged : goal.decreases-skip_tagged
decreases-skip_tagged l = 4 * l.levels + 3

abbrev pub decreases-skip_counted : goal.decreases-skip_counted
decreases-skip_counted l = 4 * l.levels + 2

abbrev pub decreases-skip_parts : goal.decreases-skip_parts
decreases-skip_parts l = 4 * l.levels + 1

-- the terms that are left stand at the position so far
abbrev pub invariant-skip_parts-loop : goal.invariant-skip_parts-loop
invariant-skip_parts-loop l =
    (term : ℕ) → (parts (skipped_at l.levels) l.count).read term l.fn.cursor ≡ (parts (skipped_at l.levels) (l.count - l.counter)).read term l.cursor
