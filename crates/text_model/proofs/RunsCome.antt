-- What the machine has come to behind some bytes: it goes on, a full stop was read, or a byte came with a fault.
use Rattle.std.proofs.Common.{◌≡◌, ℕ, ◌+◌, List, [], ◌∷◌, ◌++◌, length, length-append, Ok, Err, refl, sym, subst}
use Rattle.std.proofs.lemmas.List.{append-nil, append_assoc}
use Rattle.dets_term.specs.TermValue.{TermValue}
use Rattle.text_model.specs.declared.fault.TextWhy.{TextWhy}
use Rattle.text_model.specs.Nest.{Place, stopped}
use Rattle.text_model.specs.Reader.{State, Led, step}
use Rattle.text_model.proofs.Comes.{IsGoing, Comes}
use Rattle.text_model.proofs.ComesRows.{Row}
use Rattle.text_model.proofs.ComesSteps.{comes_step, comes_fault}
use Rattle.text_model.proofs.Runs.{Run, going, at_stop, failing, run, run_by, unless_there}

-- a state that knows what was read, and is not behind a full stop
pub record Goes (p : List ℕ) (s : State) : Type 0 where
  pub comes : Comes p s.nest s.lexeme
  pub going : IsGoing s.nest

-- a state behind a full stop, which was read with the last of some bytes
pub record Stops (p : List ℕ) (t : TermValue) (at : ℕ) (rest : List ℕ) : Type 0 where
  pub front : List ℕ
  pub whole : p ≡ front ++ rest
  pub there : at ≡ length front
  pub state : State
  pub comes : Comes front state.nest state.lexeme
  pub stop : state.nest.place ≡ stopped t

-- a fault that came with a byte, behind so many
pub record Faults (p : List ℕ) (at o : ℕ) (why : TextWhy) : Type 0 where
  pub front : List ℕ
  pub byte : ℕ
  pub rest : List ℕ
  pub whole : p ≡ front ++ byte ∷ rest
  pub there : at ≡ length front
  pub state : State
  pub goes : Goes front state
  pub step_faults : step state (length front) byte ≡ Err (o, why)
  pub row : Row (front ++ byte ∷ []) o why

-- what a run over bytes says of all bytes
abbrev pub Tells : List ℕ → Run → Type 0
Tells p (going s) = Goes p s
Tells p (at_stop t at rest) = Stops p t at rest
Tells p (failing at o why) = Faults p at o why

place_goes : (s : State) (place : Place) → s.nest.place ≡ place → (p bytes : List ℕ) (next : Run) → Comes p s.nest s.lexeme
    → (IsGoing s.nest → Tells (p ++ bytes) next) → Tells (p ++ bytes) (unless_there (length p) bytes next place)
place_goes s (stopped t) e p bytes next c h = record { front = p; whole = refl; there = refl; state = s; comes = c; stop = e }
place_goes s other e p bytes next c h = h (λ t f. cc)

pub run_tells : (p : List ℕ) (s : State) (bytes : List ℕ) → Comes p s.nest s.lexeme → Tells (p ++ bytes) (run s (length p) bytes)
run_tells p s [] c =
    place_goes s s.nest.place refl p [] (going s) c (λ g. subst (λ q. Goes q s) (sym (append-nil p)) (record { comes = c; going = g }))
run_tells p s (x ∷ rest) c =
    place_goes s s.nest.place refl p (x ∷ rest) (run_by (length p) (step s (length p) x) (λ next. run next (length p + 1) rest)) c
    (λ g. by (step s (length p) x) refl g (λ t d. run_tells (p ++ x ∷ []) t rest d))
  where
    by : (led : Led) → step s (length p) x ≡ led → IsGoing s.nest
        → ((t : State) → Comes (p ++ x ∷ []) t.nest t.lexeme → Tells ((p ++ x ∷ []) ++ rest) (run t (length (p ++ x ∷ [])) rest))
        → Tells (p ++ x ∷ rest) (run_by (length p) led (λ next. run next (length p + 1) rest))
    by (Ok t) e g further =
        subst (λ q. Tells q (run t (length p + 1) rest)) (append_assoc p (x ∷ []) rest)
        (subst (λ n. Tells ((p ++ x ∷ []) ++ rest) (run t n rest)) (length-append p (x ∷ []))
        (further t (comes_step p s t x g c e)))
    by (Err fault) e g further = record {
      front = p;
      byte = x;
      rest = rest;
      whole = refl;
      there = refl;
      state = s;
      goes = record { comes = c; going = g };
      step_faults = e;
      row = comes_fault p s x fault.0 fault.1 g c e;
    }
