-- What a run of calls leaves at a stop: how calls compose. All of it is this project's own.
use Rattle.std.specs.Prelude.{◌≡◌, ◌⊎◌, ℕ, List, Some}
use Rattle.std.proofs.Common.{arith, sym, ◌∙◌, refl, subst, inl, inr, ⊎_elim}
use Rattle.host_model.specs.Disk.{Range, IsImage}
use Rattle.host_model.specs.Host.{Left, Shown, IsCoherent, Settled, Reached, TearsIn, Stays, Says, Rests, Goes, LeavesOnly}

-- Before its first call a run leaves nothing new.
pub leaves_start : (h : Shown) (P : Left → Type 0) → LeavesOnly h h P
leaves_start h P = record { tells = refl; later = omega arith; during = λ t c le left. inl left }

-- One call leaves only P, where each pair that its effect leads to has P.
pub leaves_by_call : (effect : Left → Left → Type 0) (old new : Shown) (P : Left → Type 0) → Goes effect old new
    → ((c : Left) → Reached effect old.may_leave c → P c) → LeavesOnly old new P
leaves_by_call effect old new P goes has = record {
  tells = goes.tells;
  later = goes.later;
  during = λ t c le left. ⊎_elim (λ before. inl before) (λ r. inr (has c r)) (goes.during t c le left);
}

-- One call that only reads leaves nothing new.
pub leaves_by_rest : (old new : Shown) (P : Left → Type 0) → Rests old new → LeavesOnly old new P
leaves_by_rest old new P rests = record { tells = rests.tells; later = omega (arith, rests.clock); during = λ t c le left. inl ((rests.since t c).0 left) }

-- Two runs, one after the other, leave only P where each does.
pub leaves_then : (old mid new : Shown) (P : Left → Type 0) → LeavesOnly old mid P → LeavesOnly mid new P → LeavesOnly old new P
leaves_then old mid new P first next = record {
  tells = next.tells ∙ first.tells;
  later = omega (arith, first.later, next.later);
  during = λ t c le left. ⊎_elim (λ before. first.during t c le before) (λ p. inr p) (next.during t c (omega (arith, le, first.later)) left);
}

-- A run that leaves only P leaves only Q, where P implies Q.
pub leaves_weaker : (old new : Shown) (P Q : Left → Type 0) → ((c : Left) → P c → Q c) → LeavesOnly old new P → LeavesOnly old new Q
leaves_weaker old new P Q so run = record {
  tells = run.tells;
  later = run.later;
  during = λ t c le left. ⊎_elim (λ before. inl before) (λ p. inr (so c p))
      (run.during t c le left);
}

-- While a sync runs, and after it, a stop leaves only what it left before.
pub stays_was_left : (before : Left → Type 0) (c : Left) → Reached Stays before c → before c
stays_was_left before c r = subst before (sym r.done) r.was_left

-- From a settled host, writes leave its file torn in their ranges.
pub torn_from_settled : (ranges : List Range) (h : Shown) (f : List ℕ) (c : Left) → Settled h → h.file ≡ Some f
    → Reached (TearsIn ranges) h.may_leave c → IsImage ranges f c.image
torn_from_settled ranges h f c settled told r = subst (λ i. IsImage ranges i c.image) (settled r.start r.was_left f told) r.done.image

-- Writes leave the output that was said.
pub output_from_tears : (ranges : List Range) (h : Shown) (o : List ℕ) (c : Left) → IsCoherent h → h.said ≡ Some o → Reached (TearsIn ranges) h.may_leave c
    → c.output ≡ o
output_from_tears ranges h o c coherent told r = r.done.output ∙ coherent.outputs r.start r.was_left o told

-- What a stop leaves after a run was left at its start, or has P.
pub left_after : (old new : Shown) (P : Left → Type 0) → IsCoherent old → IsCoherent new → LeavesOnly old new P
    → (c : Left) → new.may_leave c → old.may_leave c ⊎ P c
left_after old new P before after run c left =
    ⊎_elim (λ b. inl (before.only_now c b)) (λ p. inr p)
    (run.during old.clock c (omega arith) (after.earlier old.clock new.clock c run.later (after.counts_now c left)))

-- A call that only reads leaves a settled host settled, and so does a piece of output.
pub settled_by_rest : (old new : Shown) → Settled old → Rests old new → Settled new
settled_by_rest old new settled rests c left f told = settled c ((rests.leaves c).0 left) f (sym rests.file ∙ told)

pub settled_by_put : (piece : List ℕ) (old new : Shown) → Settled old → Goes (Says piece) old new → new.file ≡ old.file → Settled new
settled_by_put piece old new settled goes file c left f told =
    let r = goes.after c left in
    r.done.image ∙ settled r.start r.was_left f (sym file ∙ told)
