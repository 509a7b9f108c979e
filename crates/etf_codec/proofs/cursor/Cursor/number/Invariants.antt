use Rattle.std.proofs.Common.{◌≡◌, ℕ, ◌<◌, ◌^◌, ◌-◌}
use Rattle.etf_model.specs.Spelling.{number, number_after}
use Rattle.etf_codec.proofs.cursor.Cursor.number.Given as goal

-- what is left to read goes on from the value so far
abbrev pub invariant-loop : goal.invariant-loop
invariant-loop l = (l.value < 256 ^ l.counter)
    × ((term : ℕ) → (number l.fn.size).read term l.fn.self ≡ (number_after l.value (l.fn.size - l.counter)).read term l.self)
