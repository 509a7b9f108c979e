-- The segments of new blocks are whole.
use Rattle.std.proofs.Common.{◌≤◌, ◌==◌, ℕ, List, [], ◌∷◌, length, subst, ⊎_elim}
use Rattle.std.specs.List.{AllByRecursion}
use Rattle.std.proofs.lemmas.Bool.{or_cases, eqb-true}
use Rattle.file_model.specs.Gates.{is_among}
use Rattle.file_model.specs.Layout.{segment_end}
use Rattle.file_model.specs.BodyWrites.{Body, HasRoom}
use Rattle.file_model.specs.GateWrites.{AreWhole}
use Rattle.file_model.specs.Flush.{news}

pub news_whole : (n : ℕ) (bodies : List Body) (file : List ℕ) → AllByRecursion (HasRoom n file) bodies → AreWhole n (news bodies) file
news_whole n [] file room u among = absurd (cc among)
news_whole n (b ∷ bs) file room u among = ⊎_elim
    (λ here. subst (λ v. segment_end n v ≤ length file) (eqb-true b.unit u here) room.0.whole)
    (λ there. news_whole n bs file room.1 u there)
    (or_cases (b.unit == u) (is_among (news bs) u) among)
