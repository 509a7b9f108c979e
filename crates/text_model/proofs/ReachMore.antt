-- How far the machine comes does not change with more bytes: it goes on from there, and a term or a fault in front stays.
use Rattle.std.proofs.Common.{◌≡◌, ℕ, ◌+◌, Bool, true, false, cond, ◌&&◌, nat_le, List, [], ◌∷◌, ◌++◌, is_none}
use Rattle.std.proofs.Common.{Ok, Err, refl, ap, ◌∙◌}
use Rattle.dets_term.specs.TermValue.{TermValue}
use Rattle.text_model.specs.declared.fault.TextWhy.{TextWhy}
use Rattle.text_model.specs.declared.fault.TextWhy.TheVariants.{TooLong}
use Rattle.text_model.specs.Sentence.{longest}
use Rattle.text_model.specs.Script.{fault, a_term, no_term, blank, may_go_on}
use Rattle.text_model.specs.Nest.{Place, stopped}
use Rattle.text_model.specs.Reader.{State, Led, step, is_blank, last_fault}
use Rattle.text_model.specs.Progress.{Progress, counted, Reached, going, at_stop, failing, reach_by, unless_done, reach, answer_by}

abbrev pub reach_on : Reached → List ℕ → Reached
reach_on (going p) more = reach p more
reach_on (at_stop t read rest) more = at_stop t read (rest ++ more)
reach_on (failing at why) more = failing at why

on_limit : (long : Bool) (at : ℕ) (next : Reached) (more : List ℕ)
    → reach_on (cond long (failing at TooLong) next) more ≡ cond long (failing at TooLong) (reach_on next more)
on_limit true at next more = refl
on_limit false at next more = refl

on_unless : (p : Progress) (bytes more : List ℕ) (next : Reached) (place : Place)
    → reach_on (unless_done p bytes next place) more ≡ unless_done p (bytes ++ more) (reach_on next more) place
on_unless p bytes more next (stopped t) = refl
on_unless p bytes more next other = on_limit (nat_le (p.blank + longest) p.read) p.blank next more

on_by : (more : List ℕ) (led : Led) (next then : State → Reached) → ((s : State) → reach_on (next s) more ≡ then s)
    → reach_on (reach_by led next) more ≡ reach_by led then
on_by more (Ok s) next then h = h s
on_by more (Err why) next then h = refl

-- what is answered where this was asked already
limit_twice : (long : Bool) (at : ℕ) (next : Reached)
    → cond long (failing at TooLong) (cond long (failing at TooLong) next) ≡ cond long (failing at TooLong) next
limit_twice true at next = refl
limit_twice false at next = refl

unless_twice : (p : Progress) (bytes : List ℕ) (next : Reached) (place : Place)
    → unless_done p bytes (unless_done p bytes next place) place ≡ unless_done p bytes next place
unless_twice p bytes next (stopped t) = refl
unless_twice p bytes next other = limit_twice (nat_le (p.blank + longest) p.read) p.blank next

once : (p : Progress) (more : List ℕ) → unless_done p more (reach p more) p.state.nest.place ≡ reach p more
once p [] = unless_twice p [] (going p) p.state.nest.place
once p (x ∷ more) = unless_twice p (x ∷ more) (reach_by (step p.state p.read x) (λ s. reach (counted p s) more)) p.state.nest.place

pub reach_more : (p : Progress) (bytes more : List ℕ) → reach_on (reach p bytes) more ≡ reach p (bytes ++ more)
reach_more p [] more = on_unless p [] more (going p) p.state.nest.place ∙ once p more
reach_more p (x ∷ rest) more =
    on_unless p (x ∷ rest) more (reach_by (step p.state p.read x) (λ s. reach (counted p s) rest)) p.state.nest.place
    ∙ ap (λ r. unless_done p (x ∷ (rest ++ more)) r p.state.nest.place)
    (on_by more (step p.state p.read x) (λ s. reach (counted p s) rest) (λ s. reach (counted p s) (rest ++ more))
    (λ s. reach_more (counted p s) rest more))

-- ---- what is answered

no_term_so_far : (b : Bool) (at : ℕ) (why : TextWhy) → no_term (cond b blank may_go_on) ≡ no_term (fault at why) → ⊥
no_term_so_far true at why e = cc
no_term_so_far false at why e = cc

pub answer_term_on : (finished : Bool) (r : Reached) (more : List ℕ) (t : TermValue) (taken : ℕ) → answer_by false r ≡ a_term t taken
    → answer_by finished (reach_on r more) ≡ a_term t taken
answer_term_on finished (at_stop u read (x ∷ rest)) more t taken e = e
answer_term_on finished other more t taken e = cc

pub answer_fault_on : (finished : Bool) (r : Reached) (more : List ℕ) (at : ℕ) (why : TextWhy) → answer_by false r ≡ no_term (fault at why)
    → answer_by finished (reach_on r more) ≡ no_term (fault at why)
answer_fault_on finished (going p) more at why e =
    absurd (no_term_so_far (is_blank p.state && is_none (last_fault p.state.nest p.read p.state.lexeme)) at why e)
answer_fault_on finished (at_stop u read []) more at why e = cc
answer_fault_on finished (at_stop u read (x ∷ rest)) more at why e = e
answer_fault_on finished (failing o rule) more at why e = e
