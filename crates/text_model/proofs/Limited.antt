-- What bytes lead to where a text may have so many: as far as the machine comes without this limit, cut off at it.
use Rattle.std.proofs.Common.{◌≡◌, ℕ, suc, ◌+◌, ◌<◌, ◌≤◌, Bool, true, false, cond, nat_le, ◌==◌, ◌&&◌, List, [], ◌∷◌, length, Ok, Err, refl, ap, ◌∙◌}
use Rattle.std.proofs.Common.{sym, arith}
use Rattle.std.proofs.lemmas.Bool.{le-leb}
use Rattle.std.proofs.lemmas.Bool.Decides.{nat_tests}
use Rattle.text_model.specs.declared.fault.TextWhy.TheVariants.{TooLong}
use Rattle.text_model.specs.Sentence.{longest}
use Rattle.text_model.specs.Nest.{Place, stopped}
use Rattle.text_model.specs.Reader.{State, Led, step, is_blank}
use Rattle.text_model.specs.Progress.{Reached, going as all_read, at_stop as stopped_at, failing as failed, counted, reach_by, unless_done, reach}
use Rattle.text_model.proofs.Runs.{Run, going, at_stop, failing, run, run_by, unless_there}

-- a run, where so many bytes are in front of the sentence's first token
abbrev pub by_limit : ℕ → Run → ℕ → Reached
by_limit blank (going s) end = cond (nat_le (blank + longest) end) (failed blank TooLong) (all_read (record { state = s; read = end; blank = blank }))
by_limit blank (at_stop t at rest) end = cond (nat_le at (blank + longest)) (stopped_at t at rest) (failed blank TooLong)
by_limit blank (failing at o why) end = cond (nat_le (blank + longest) at) (failed blank TooLong) (failed o why)

pub if_le : {A : Type 0} (m n : ℕ) (x y : A) → m ≤ n → cond (nat_le m n) x y ≡ x
if_le m n x y h = ap (λ b. cond b x y) (le-leb m n h)

not_le : (m n : ℕ) → n < m → nat_le m n ≡ false
not_le m n h = grind (arith, nat_tests)

pub if_gt : {A : Type 0} (m n : ℕ) (x y : A) → n < m → cond (nat_le m n) x y ≡ y
if_gt m n x y h = ap (λ b. cond b x y) (not_le m n h)

-- ---- behind the limit

late_place : (blank at end : ℕ) (bytes : List ℕ) (next : Run) (place : Place) → blank + longest < at → by_limit blank next end ≡ failed blank TooLong
    → by_limit blank (unless_there at bytes next place) end ≡ failed blank TooLong
late_place blank at end bytes next (stopped t) h e = if_gt at (blank + longest) _ _ h
late_place blank at end bytes next other h e = e

late : (blank at : ℕ) (s : State) (bytes : List ℕ) → blank + longest < at → by_limit blank (run s at bytes) (at + length bytes) ≡ failed blank TooLong
late blank at s [] h = late_place blank at (at + 0) [] (going s) s.nest.place h (if_le (blank + longest) (at + 0) _ _ (omega arith))
late blank at s (x ∷ rest) h =
    late_place blank at (at + suc (length rest)) (x ∷ rest) (run_by at (step s at x) (λ next. run next (at + 1) rest)) s.nest.place h
    (by (step s at x) (λ t. late blank (at + 1) t rest (omega arith)))
  where
    by : (led : Led) → ((t : State) → by_limit blank (run t (at + 1) rest) (at + 1 + length rest) ≡ failed blank TooLong)
        → by_limit blank (run_by at led (λ next. run next (at + 1) rest)) (at + suc (length rest)) ≡ failed blank TooLong
    by (Ok t) further = ap (by_limit blank (run t (at + 1) rest)) (let e : at + suc (length rest) ≡ at + 1 + length rest = omega arith in e) ∙ further t
    by (Err fault) further = if_le (blank + longest) at _ _ (omega arith)

-- ---- from the first token on

counted_on : (s t : State) (at blank : ℕ) → blank < at
    → counted (record { state = s; read = at; blank = blank }) t ≡ record { state = t; read = at + 1; blank = blank }
counted_on s t at blank h =
    let apart : (blank == at) ≡ false = grind (arith, nat_tests) in
    ap (λ (b : Bool). record { state = t; read = at + 1; blank = cond (b && is_blank t) (at + 1) blank }) apart

place_limited : (s : State) (at blank end : ℕ) (bytes : List ℕ) (next : Run) (then : Reached) (place : Place) → at ≤ blank + longest
    → (blank + longest ≤ at → by_limit blank next end ≡ failed blank TooLong) → (at < blank + longest → then ≡ by_limit blank next end)
    → unless_done (record { state = s; read = at; blank = blank }) bytes then place ≡ by_limit blank (unless_there at bytes next place) end
place_limited s at blank end bytes next then place h full further = by place (nat_le (blank + longest) at) refl
  where
    by_test : (b : Bool) → nat_le (blank + longest) at ≡ b → cond b (failed blank TooLong) then ≡ by_limit blank next end
    by_test true e = sym (full (grind (arith, nat_tests)))
    by_test false e = further (grind (arith, nat_tests))

    by : (place : Place) (b : Bool) → nat_le (blank + longest) at ≡ b
        → unless_done (record { state = s; read = at; blank = blank }) bytes then place ≡ by_limit blank (unless_there at bytes next place) end
    by (stopped t) b e = sym (if_le at (blank + longest) _ _ h)
    by other b e = by_test (nat_le (blank + longest) at) refl

pub limited : (s : State) (at blank : ℕ) (bytes : List ℕ) → blank < at → at ≤ blank + longest
    → reach (record { state = s; read = at; blank = blank }) bytes ≡ by_limit blank (run s at bytes) (at + length bytes)
limited s at blank [] h short =
    place_limited s at blank (at + 0) [] (going s) _ s.nest.place short
    (λ full. if_le (blank + longest) (at + 0) _ _ (omega arith))
    (λ more. ap (λ n. all_read (record { state = s; read = n; blank = blank })) (let e : at ≡ at + 0 = omega arith in e)
    ∙ sym (if_gt (blank + longest) (at + 0) _ _ (omega arith)))
limited s at blank (x ∷ rest) h short =
    place_limited s at blank (at + suc (length rest)) (x ∷ rest) (run_by at (step s at x) (λ next. run next (at + 1) rest)) _ s.nest.place short
    (λ full. full_by (step s at x) full)
    (λ more. by (step s at x) more
    (λ t. ap (λ p. reach p rest) (counted_on s t at blank h) ∙ limited t (at + 1) blank rest (omega arith) (omega arith)))
  where
    here : (t : State) → by_limit blank (run t (at + 1) rest) (at + 1 + length rest) ≡ by_limit blank (run t (at + 1) rest) (at + suc (length rest))
    here t = ap (by_limit blank (run t (at + 1) rest)) (let e : at + 1 + length rest ≡ at + suc (length rest) = omega arith in e)

    full_by : (led : Led) → blank + longest ≤ at
        → by_limit blank (run_by at led (λ next. run next (at + 1) rest)) (at + suc (length rest)) ≡ failed blank TooLong
    full_by (Ok t) full = sym (here t) ∙ late blank (at + 1) t rest (omega arith)
    full_by (Err fault) full = if_le (blank + longest) at _ _ full

    by : (led : Led) → at < blank + longest
        → ((t : State) → reach (counted (record { state = s; read = at; blank = blank }) t) rest ≡ by_limit blank (run t (at + 1) rest) (at + 1 + length rest))
        → reach_by led (λ t. reach (counted (record { state = s; read = at; blank = blank }) t) rest)
        ≡ by_limit blank (run_by at led (λ next. run next (at + 1) rest)) (at + suc (length rest))
    by (Ok t) more further = further t ∙ here t
    by (Err fault) more further = sym (if_gt (blank + longest) at _ _ more)
