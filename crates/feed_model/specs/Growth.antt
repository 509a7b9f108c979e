-- Lemmas: what a stream gives, and what it gives where more bytes follow.
use Rattle.std.proofs.Common.{◌≡◌, ◌≢◌, ℕ, ◌+◌, Bool, true, List, [], ◌∷◌, ◌++◌, drop, refl, ap₂, sym, subst}
use Rattle.std.proofs.lemmas.List.{drop-append-le}
use Rattle.dets_term.specs.TermValue.{TermValue}
use Rattle.feed_model.specs.Meaning.{Behind, goes_on, a_term, no_term, Meaning}
use Rattle.feed_model.specs.Stream.{IsStream}
use Rattle.feed_model.specs.Steady.{Steady}
use Rattle.feed_model.specs.OneAnswer.{one_term, no_other}

module _ {F : Type 0} (m : Meaning F) (steady : Steady m) (finished then : Bool) (more : List ℕ) where
  -- the terms that are first there stay first, where each term in front stays
  pub first_stay : ((start : ℕ) (bytes : List ℕ) (t : TermValue) (count : ℕ) → m.Stands finished start bytes (a_term t count)
      → m.Stands then start (bytes ++ more) (a_term t count))
      → (start : ℕ) (bytes : List ℕ) (us vs ts : List TermValue) (x y : Behind F) → IsStream m finished start bytes (us ++ vs) x
      → IsStream m then start (bytes ++ more) ts y → (ws : List TermValue) × (ts ≡ us ++ ws)
  first_stay stays start bytes [] vs ts x y h k = (ts, refl)
  first_stay stays start bytes (u ∷ us) vs [] x y (count, front, h) k =
      absurd (no_other m steady then start (bytes ++ more) y u count k (stays start bytes u count front))
  first_stay stays start bytes (u ∷ us) vs (t ∷ ts) x y (count, front, h) (other, there, k) =
      let same = one_term m steady then start (bytes ++ more) u t count other (stays start bytes u count front) there in
      let moved = subst (λ n. IsStream m then (start + n) (drop n (bytes ++ more)) ts y) same.1 k in
      let dropped = drop-append-le count bytes more (steady.within finished start bytes u count front).1 in
      let on = first_stay stays (start + count) (drop count bytes) us vs ts x y h
      (subst (λ l. IsStream m then (start + count) l ts y) dropped moved) in
      (on.0, ap₂ (λ v vs. v ∷ vs) (sym same.0) on.1)

  -- all stays where what stands behind the last term does
  pub stream_stays : (finished ≡ true → (then ≡ true) × (more ≡ [])) → (start : ℕ) (bytes : List ℕ) (ts : List TermValue) (x : Behind F)
      → no_term x ≢ no_term goes_on → IsStream m finished start bytes ts x → IsStream m then start (bytes ++ more) ts x
  stream_stays last start bytes [] x other is = steady.stays finished then start bytes more (no_term x) other last is
  stream_stays last start bytes (t ∷ ts) x other (count, front, is) =
      let dropped = drop-append-le count bytes more (steady.within finished start bytes t count front).1 in (
        count,
        steady.stays finished then start bytes more (a_term t count) (λ e. cc) last front,
        subst (λ l. IsStream m then (start + count) l ts x) (sym dropped) (stream_stays last (start + count) (drop count bytes) ts x other is),
      )
