-- Lemma: a feed that answers loses no byte, and its input goes on or is finished as before.
use Rattle.std.proofs.Common.{◌≡◌, ℕ, Option, Some, None, Result, Ok, Err, refl, ap, ◌∙◌, inl, inr, arith}
use Rattle.std.proofs.lemmas.List.{length-drop}
use Rattle.dets_term.specs.TermValue.{TermValue}
use Rattle.feed_model.specs.declared.fed.Fed.{Fed}
use Rattle.feed_model.specs.declared.fed.Fed.TheVariants.{Term, Again, End}
use Rattle.feed_model.specs.Meaning.{a_term, Meaning}
use Rattle.feed_model.specs.Feed.{Feed, total, passed, Holds, Gives, gives_behind, IsNext}
use Rattle.feed_model.specs.Steady.{Steady}

abbrev Keeps : {F : Type 0} → (old new : Feed F) → Type 0
Keeps old new = (total new ≡ total old) × (new.finished ≡ old.finished)

-- so does a state that is equal to one which keeps them
kept : {F : Type 0} (old like new : Feed F) → Keeps old like → new ≡ like → Keeps old new
kept {F} old like new keeps is = (ap (λ (s : Feed F). total s) is ∙ keeps.0, ap (λ (s : Feed F). s.finished) is ∙ keeps.1)

passed_kept : {F : Type 0} (m : Meaning F) → Steady m → (s : Feed F) (t : TermValue) (count : ℕ) → Holds m s (a_term t count)
    → total (passed s count) ≡ total s
passed_kept m steady s t count is =
    let within = steady.within s.finished s.offset s.left t count is in
    omega (arith, within.1, length-drop count s.left)

gives_kept : {F : Type 0} (m : Meaning F) → Steady m → (old new : Feed F) (answer : Result Fed F) → Gives m old new answer → Keeps old new
gives_kept m steady old new (Ok (Term t)) (count, is, e) = kept old (passed old count) new (passed_kept m steady old t count is, refl) e
gives_kept m steady old new (Ok Again) (is, e) = kept old old new (refl, refl) e
gives_kept m steady old new (Ok End) (is, e) = kept old old new (refl, refl) e
gives_kept {F} m steady old new (Err fault) (inl (is, e)) = (ap (λ (s : Feed F). total s) e, ap (λ (s : Feed F). s.finished) e)
gives_kept m steady old new (Err fault) (inr (none, e)) = kept old old new (refl, refl) e

behind_kept : {F : Type 0} (m : Meaning F) → Steady m → (came : Option F) (old new : Feed F) (answer : Result Fed F) → gives_behind came m old new answer
    → Keeps old new
behind_kept m steady None old new answer g = gives_kept m steady old new answer g
behind_kept m steady (Some fault) old new answer g = kept old old new (refl, refl) g.1

pub next_keeps : {F : Type 0} (m : Meaning F) → Steady m → (old new : Feed F) (answer : Result Fed F) → IsNext m old new answer
    → (total new ≡ total old) × (new.finished ≡ old.finished)
next_keeps m steady old new answer g = behind_kept m steady old.fault old new answer g
