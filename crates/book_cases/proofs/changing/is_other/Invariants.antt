use Rattle.book_cases.specs.Others.{IsOther}
use Rattle.book_cases.proofs.Rest.{Rest}
use Rattle.book_cases.proofs.changing.is_other.Given as goal

abbrev pub invariant-loop-place : goal.invariant-loop-place
invariant-loop-place l = Rest (λ c. IsOther c l.change) l.changes l.place
