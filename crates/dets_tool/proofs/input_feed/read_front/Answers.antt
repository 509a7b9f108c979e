-- The read wrote to a front of the buffer, which ends no earlier than the bytes that it gave.
use Rattle.std.proofs.Common.{◌≡◌, ◌≤◌, ℕ, List, ◌++◌, length, take, ◌∙◌, Option, Some, None, Result, Ok, Err, IfSome, IfOk}
use Rattle.std.proofs.lemmas.List.{take-append-le}
use Rattle.host_model.specs.Source.{Stream}
use Rattle.dets_tool.proofs.input_feed.read_front.Goals as goal

given_front : {E : Type 0} (r : Result ℕ E) (told : Option Stream) (front rest : List ℕ) → IfOk r (λ n. n ≤ length front)
    → IfOk r (λ n. IfSome told (λ s. take n front ≡ take n s.left)) → IfOk r (λ n. IfSome told (λ s. take n (front ++ rest) ≡ take n s.left))
given_front (Ok n) (Some s) front rest fits given = take-append-le n front rest fits ∙ given
given_front (Ok n) None front rest fits given = tt
given_front (Err e) told front rest fits given = tt

pub returns-clause-given : goal.returns-clause-given
returns-clause-given g c = given_front c.read.result _ _ _ c.read.ensures.fits c.read.ensures.given
