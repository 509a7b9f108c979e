use Rattle.write_cache.specs.Waiting.{states_of}
use Rattle.book_cases.proofs.Rest.{Rest}
use Rattle.book_cases.proofs.Waits.{Elsewhere}
use Rattle.book_cases.proofs.old.is_pending.Given as goal

abbrev pub invariant-loop-place : goal.invariant-loop-place
invariant-loop-place l = Rest (Elsewhere l.unit) (states_of l.cache) l.place
