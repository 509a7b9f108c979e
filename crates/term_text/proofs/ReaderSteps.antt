-- One byte of the machine with its counts, where a term has not too many of them.
use Rattle.std.proofs.Common.{◌≡◌, ℕ, ◌+◌, ◌-◌, ◌<◌, ◌≤◌, Bool, true, false, cond, nat_le, not, ◌&&◌, ◌==◌, ◌⊎◌, inl, inr, List, [], ◌∷◌, ◌++◌}
use Rattle.std.proofs.Common.{length, take, append_assoc, drop, get_or, drop-cons, suc, Ok, Err, refl, ap, ◌∙◌, sym, subst, arith}
use Rattle.std.proofs.lemmas.Bool.{and_parts, not-true}
use Rattle.std.proofs.lemmas.List.{take_more}
use Rattle.std.proofs.lemmas.Bool.Decides.{nat_tests}
use Rattle.text_model.specs.declared.fault.TextWhy.{TextWhy}
use Rattle.text_model.specs.declared.fault.TextWhy.TheVariants.{TooLong}
use Rattle.text_model.specs.Sentence.{longest}
use Rattle.text_model.specs.Nest.{Place, stopped}
use Rattle.text_model.specs.Reader.{State, step, is_blank}
use Rattle.text_model.specs.Progress.{Progress, no_progress, counted, Reached, going, failing, reach_by, unless_done, reach}
use Rattle.text_nest.specs.Strays.{is_stopped}
use Rattle.term_text.specs.StateFits.{IsFitState}
use Rattle.term_text.specs.ReaderView.{IsReady}
use Rattle.term_text.proofs.FitSteps.{fresh_fits, blank_fits, step_fits}

pub fresh_ready : IsReady no_progress
fresh_ready = record { order = omega arith; fits = fresh_fits; short = omega arith; room = λ e. omega arith }

-- what is not stopped
unless_going : (p : Progress) (bytes : List ℕ) (next : Reached) (place : Place) → is_stopped place ≡ false
    → unless_done p bytes next place ≡ cond (nat_le (p.blank + longest) p.read) (failing p.blank TooLong) next
unless_going p bytes next (stopped t) e = cc
unless_going p bytes next other e = refl

few : (p : Progress) → p.read < p.blank + longest → nat_le (p.blank + longest) p.read ≡ false
few p h = grind (arith, nat_tests)

pub reach_step : (p : Progress) (x : ℕ) (rest : List ℕ) → IsReady p → is_stopped p.state.nest.place ≡ false
    → reach p (x ∷ rest) ≡ reach_by (step p.state p.read x) (λ s. reach (counted p s) rest)
reach_step p x rest r e =
    unless_going p (x ∷ rest) _ p.state.nest.place e
    ∙ ap (λ b. cond b (failing p.blank TooLong) (reach_by (step p.state p.read x) (λ s. reach (counted p s) rest))) (few p (r.room e))

-- where nothing more is read, the state itself
pub reach_none : (p : Progress) → IsReady p → is_stopped p.state.nest.place ≡ false → reach p [] ≡ going p
reach_none p r e = unless_going p [] (going p) p.state.nest.place e ∙ ap (λ b. cond b (failing p.blank TooLong) (going p)) (few p (r.room e))

-- too many bytes
pub reach_long : (p : Progress) (rest : List ℕ) → ((not (is_stopped p.state.nest.place)) && nat_le (p.blank + longest) p.read) ≡ true
    → reach p rest ≡ failing p.blank TooLong
reach_long p [] e =
    let parts = and_parts _ _ e in
    unless_going p [] (going p) p.state.nest.place (not-true _ parts.0) ∙ ap (λ b. cond b (failing p.blank TooLong) (going p)) parts.1
reach_long p (x ∷ rest) e =
    let parts = and_parts _ _ e in
    unless_going p (x ∷ rest) _ p.state.nest.place (not-true _ parts.0)
    ∙ ap (λ b. cond b (failing p.blank TooLong) (reach_by (step p.state p.read x) (λ s. reach (counted p s) rest))) parts.1

-- behind one more byte
count_blank : (p : Progress) (s : State) → p.blank ≤ p.read
    → ((counted p s).blank ≡ p.blank) ⊎ (((counted p s).blank ≡ p.read + 1) × (is_blank s ≡ true) × (p.blank ≡ p.read))
count_blank p s h = by_test ((p.blank == p.read) && is_blank s) refl
  where
    by_test : (b : Bool) → ((p.blank == p.read) && is_blank s) ≡ b
        → (cond b (p.read + 1) p.blank ≡ p.blank) ⊎ ((cond b (p.read + 1) p.blank ≡ p.read + 1) × (is_blank s ≡ true) × (p.blank ≡ p.read))
    by_test true e = let parts = and_parts (p.blank == p.read) (is_blank s) e in inr (refl, parts.1, grind (arith, nat_tests))
    by_test false e = inl refl

ready_by : (p : Progress) (s : State) (blank : ℕ) → IsReady p → IsFitState (p.read - p.blank + 1) s
    → (blank ≡ p.blank) ⊎ ((blank ≡ p.read + 1) × (is_blank s ≡ true) × (p.blank ≡ p.read))
    → (is_stopped s.nest.place ≡ false → p.read + 1 < blank + longest) → p.read < p.blank + longest
    → IsReady (record { state = s; read = p.read + 1; blank = blank })
ready_by p s blank r f (inl e) room short = record {
  order = omega (arith, r.order);
  fits = subst (λ n. IsFitState n s) (let same : p.read - p.blank + 1 ≡ p.read + 1 - blank = omega (arith, r.order) in same) f;
  short = omega arith;
  room = room;
}
ready_by p s blank r f (inr (e, b, same)) room short = record {
  order = omega arith;
  fits = subst (λ n. IsFitState n s) (let none : 0 ≡ p.read + 1 - blank = omega arith in none) (blank_fits (p.read - p.blank + 1) s f b);
  short = omega arith;
  room = room;
}

pub ready_step : (p : Progress) (x : ℕ) (s : State) → IsReady p → is_stopped p.state.nest.place ≡ false → step p.state p.read x ≡ Ok s
    → ((not (is_stopped s.nest.place)) && nat_le ((counted p s).blank + longest) (p.read + 1)) ≡ false → IsReady (counted p s)
ready_step p x s r e led short =
    ready_by p s (counted p s).blank r (step_fits (p.read - p.blank) p.read x p.state s r.fits led) (count_blank p s r.order)
    (λ going. room_left (is_stopped s.nest.place) (nat_le ((counted p s).blank + longest) (p.read + 1)) refl going short) (r.room e)
  where
    room_left : (stop long : Bool) → nat_le ((counted p s).blank + longest) (p.read + 1) ≡ long → stop ≡ false → ((not stop) && long) ≡ false
        → p.read + 1 < (counted p s).blank + longest
    room_left true long e stop none = cc
    room_left false true e stop none = cc
    room_left false false e stop none = grind (arith, nat_tests)

pub counted_order : (p : Progress) (s : State) → p.blank ≤ p.read → (counted p s).blank ≤ p.read + 1
counted_order p s h = by_case (count_blank p s h)
  where
    by_case : ((counted p s).blank ≡ p.blank) ⊎ (((counted p s).blank ≡ p.read + 1) × (is_blank s ≡ true) × (p.blank ≡ p.read))
        → (counted p s).blank ≤ p.read + 1
    by_case (inl e) = omega arith
    by_case (inr (e, b, same)) = omega arith

-- a step that is made
pub reach_on_step : (p q : Progress) (x : ℕ) (s : State) (rest : List ℕ) → IsReady p → is_stopped p.state.nest.place ≡ false
    → step p.state p.read x ≡ Ok s → q ≡ counted p s → reach p (x ∷ rest) ≡ reach q rest
reach_on_step p q x s rest r e led same =
    reach_step p x rest r e ∙ ap (λ l. reach_by l (λ t. reach (counted p t) rest)) led ∙ ap (λ m. reach m rest) (sym same)

-- the next of some bytes
pub next_of : (bytes : List ℕ) (i : ℕ) → i < length bytes → drop i bytes ≡ get_or bytes i 0 ∷ drop (i + 1) bytes
next_of bytes i h = drop-cons bytes i 0 h ∙ ap (λ j. get_or bytes i 0 ∷ drop j bytes) (let e : suc i ≡ i + 1 = omega arith in e)

pub one_more : (bytes : List ℕ) (i : ℕ) (more : List ℕ) → i < length bytes → take (i + 1) bytes ++ more ≡ take i bytes ++ get_or bytes i 0 ∷ more
one_more bytes i more h = ap (λ front. front ++ more) (take_more bytes i 0 h) ∙ append_assoc (take i bytes) (get_or bytes i 0 ∷ []) more

-- a step that is none
pub reach_fault : (p : Progress) (x : ℕ) (rest : List ℕ) (at : ℕ) (why : TextWhy) → IsReady p → is_stopped p.state.nest.place ≡ false
    → step p.state p.read x ≡ Err (at, why) → reach p (x ∷ rest) ≡ failing at why
reach_fault p x rest at why r e led = reach_step p x rest r e ∙ ap (λ l. reach_by l (λ t. reach (counted p t) rest)) led
