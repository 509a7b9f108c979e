-- How far the machine that reads bytes comes with some bytes, and that what follows them does not change this.
use Rattle.std.proofs.Common.{◌≡◌, ℕ, suc, ◌+◌, List, [], ◌∷◌, ◌++◌, length, Ok, Err, refl, ap, ◌∙◌, sym, arith}
use Rattle.dets_term.specs.TermValue.{TermValue}
use Rattle.text_model.specs.declared.fault.TextWhy.{TextWhy}
use Rattle.text_model.specs.Nest.{Place, stopped}
use Rattle.text_model.specs.Reader.{State, Led, step, Outcome, faulty, at_end, behind_stop, unless_stopped, outcome_by, outcome}

-- no full stop of a term yet; behind one, with the number of bytes that were read; or a fault, with the number of bytes in
-- front of the byte that it comes with
pub data Run : Type 0 where
  going : State → Run
  at_stop : TermValue → ℕ → List ℕ → Run
  failing : ℕ → ℕ → TextWhy → Run

abbrev pub unless_there : ℕ → List ℕ → Run → Place → Run
unless_there at bytes next (stopped t) = at_stop t at bytes
unless_there at bytes next other = next

abbrev pub run_by : ℕ → Led → (State → Run) → Run
run_by at (Ok s) next = next s
run_by at (Err fault) next = failing at fault.0 fault.1

abbrev pub run : State → ℕ → List ℕ → Run
run s at [] = unless_there at [] (going s) s.nest.place
run s at (x ∷ rest) = unless_there at (x ∷ rest) (run_by at (step s at x) (λ next. run next (at + 1) rest)) s.nest.place

-- ---- where the bytes end

abbrev pub ended : Run → ℕ → Outcome
ended (going s) end = at_end s end
ended (at_stop t at rest) end = behind_stop t at rest
ended (failing at o why) end = faulty o why

ended_unless : (at end : ℕ) (bytes : List ℕ) (next : Run) (place : Place)
    → ended (unless_there at bytes next place) end ≡ unless_stopped at bytes (ended next end) place
ended_unless at end bytes next (stopped t) = refl
ended_unless at end bytes next other = refl

ended_by : (at end : ℕ) (led : Led) (next : State → Run) (then : State → Outcome) → ((s : State) → ended (next s) end ≡ then s)
    → ended (run_by at led next) end ≡ outcome_by led then
ended_by at end (Ok s) next then h = h s
ended_by at end (Err fault) next then h = refl

pub outcome_run : (s : State) (at : ℕ) (bytes : List ℕ) → ended (run s at bytes) (at + length bytes) ≡ outcome s at bytes
outcome_run s at [] = ended_unless at (at + 0) [] (going s) s.nest.place ∙ ap (λ n. unless_stopped at [] (at_end s n) s.nest.place) (omega arith)
outcome_run s at (x ∷ rest) =
    ended_unless at (at + suc (length rest)) (x ∷ rest) (run_by at (step s at x) (λ next. run next (at + 1) rest)) s.nest.place
    ∙ ap (λ o. unless_stopped at (x ∷ rest) o s.nest.place)
    (ended_by at (at + suc (length rest)) (step s at x) (λ next. run next (at + 1) rest) (λ next. outcome next (at + 1) rest)
    (λ next. ap (ended (run next (at + 1) rest)) (let e : at + suc (length rest) ≡ at + 1 + length rest = omega arith in e) ∙ outcome_run next (at + 1) rest))

-- ---- more bytes

abbrev pub going_on : Run → ℕ → List ℕ → Run
going_on (going s) end more = run s end more
going_on (at_stop t at rest) end more = at_stop t at (rest ++ more)
going_on (failing at o why) end more = failing at o why

on_unless : (at end : ℕ) (bytes more : List ℕ) (next : Run) (place : Place)
    → going_on (unless_there at bytes next place) end more ≡ unless_there at (bytes ++ more) (going_on next end more) place
on_unless at end bytes more next (stopped t) = refl
on_unless at end bytes more next other = refl

on_by : (at end : ℕ) (more : List ℕ) (led : Led) (next then : State → Run) → ((s : State) → going_on (next s) end more ≡ then s)
    → going_on (run_by at led next) end more ≡ run_by at led then
on_by at end more (Ok s) next then h = h s
on_by at end more (Err fault) next then h = refl

once : (s : State) (at : ℕ) (more : List ℕ) (place : Place) → s.nest.place ≡ place → unless_there at more (run s at more) place ≡ run s at more
once s at [] (stopped t) e = ap (unless_there at [] (going s)) (sym e)
once s at (x ∷ more) (stopped t) e = ap (unless_there at (x ∷ more) (run_by at (step s at x) (λ next. run next (at + 1) more))) (sym e)
once s at more other e = refl

pub run_more : (s : State) (at : ℕ) (bytes more : List ℕ) → going_on (run s at bytes) (at + length bytes) more ≡ run s at (bytes ++ more)
run_more s at [] more =
    on_unless at (at + 0) [] more (going s) s.nest.place
    ∙ ap (λ n. unless_there at more (run s n more) s.nest.place) (let e : at + 0 ≡ at = omega arith in e)
    ∙ once s at more s.nest.place refl
run_more s at (x ∷ rest) more =
    on_unless at (at + suc (length rest)) (x ∷ rest) more (run_by at (step s at x) (λ next. run next (at + 1) rest)) s.nest.place
    ∙ ap (λ r. unless_there at (x ∷ (rest ++ more)) r s.nest.place)
    (on_by at (at + suc (length rest)) more (step s at x) (λ next. run next (at + 1) rest) (λ next. run next (at + 1) (rest ++ more))
    (λ next. ap (λ n. going_on (run next (at + 1) rest) n more) (let e : at + suc (length rest) ≡ at + 1 + length rest = omega arith in e)
    ∙ run_more next (at + 1) rest more))
