use Rattle.std.proofs.Common.{◌≡◌, ◌-◌, false}
use Rattle.etf_model.specs.Spelling.{count, count_after}
use Rattle.etf_codec.proofs.cursor.Cursor.count.Given as goal

-- all bytes so far are 0
abbrev pub invariant-loop : goal.invariant-loop
invariant-loop l = (count l.fn.levels l.fn.size).read l.fn.term l.fn.self ≡ (count_after false 0 (l.fn.size - l.counter)).read l.fn.term l.self
