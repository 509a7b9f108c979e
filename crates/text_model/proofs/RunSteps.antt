-- A byte of a run that is not behind a full stop, and what bytes that are all come to, from what their run comes to.
use Rattle.std.proofs.Common.{◌≡◌, ℕ, ◌+◌, List, [], ◌∷◌, length, Err, refl, ap, ◌∙◌, sym, arith, Ok}
use Rattle.dets_term.specs.TermValue.{TermValue}
use Rattle.text_model.specs.declared.fault.TextWhy.{TextWhy}
use Rattle.text_model.specs.Nest.{Nest, Place, stopped, fresh}
use Rattle.text_model.specs.Reader.{Lexeme, State, Led, in_lexeme, led, outcome, faulty, between, Outcome}
use Rattle.text_model.proofs.Comes.{IsGoing}
use Rattle.text_model.proofs.Runs.{Run, failing, run, run_by, unless_there, ended, outcome_run, going}

abbrev pub state_in : Nest → Lexeme → State
state_in n lexeme = record { nest = n; lexeme = lexeme }

-- where the next token begins
abbrev pub at_token : Nest → State
at_token n = state_in n between

pub fresh_goes : IsGoing fresh
fresh_goes t e = cc

-- ---- a byte

not_there : (at : ℕ) (bytes : List ℕ) (next : Run) (place : Place) → ((t : TermValue) → place ≡ stopped t → ⊥) → unless_there at bytes next place ≡ next
not_there at bytes next (stopped t) goes = absurd (goes t refl)
not_there at bytes next other goes = refl

-- a byte that leads to this
pub run_led : (n : Nest) (l : Lexeme) (at x : ℕ) (rest : List ℕ) (d : Led) → IsGoing n → led n at x l ≡ d
    → run (state_in n l) at (x ∷ rest) ≡ run_by at d (λ s. run s (at + 1) rest)
run_led n l at x rest d goes e =
    not_there at (x ∷ rest) (run_by at (led n at x l) (λ s. run s (at + 1) rest)) n.place goes ∙ ap (λ k. run_by at k (λ s. run s (at + 1) rest)) e

pub run_to : (n : Nest) (l : Lexeme) (at x next : ℕ) (rest : List ℕ) (s : State) → IsGoing n → led n at x l ≡ Ok s → at + 1 ≡ next
    → run (state_in n l) at (x ∷ rest) ≡ run s next rest
run_to n l at x next rest s goes e there = run_led n l at x rest (Ok s) goes e ∙ ap (λ k. run s k rest) there

pub run_end : (n : Nest) (l : Lexeme) (at : ℕ) → IsGoing n → run (state_in n l) at [] ≡ going (state_in n l)
run_end n l at goes = not_there at [] (going (state_in n l)) n.place goes

-- two states that a byte leads to the same
pub run_alike : (n : Nest) (l k : Lexeme) (at x : ℕ) (rest : List ℕ) → led n at x l ≡ led n at x k
    → run (state_in n l) at (x ∷ rest) ≡ run (state_in n k) at (x ∷ rest)
run_alike n l k at x rest e = ap (λ d. unless_there at (x ∷ rest) (run_by at d (λ s. run s (at + 1) rest)) n.place) e

-- ---- bytes that are all

pub run_outcome : (s : State) (at end : ℕ) (bytes : List ℕ) (r : Run) → run s at bytes ≡ r → at + length bytes ≡ end → outcome s at bytes ≡ ended r end
run_outcome s at end bytes r e there = sym (outcome_run s at bytes) ∙ ap (ended (run s at bytes)) there ∙ ap (λ q. ended q end) e

-- a fault that comes with a byte
pub fails_outcome : (s : State) (at last o : ℕ) (why : TextWhy) (bytes : List ℕ) → run s at bytes ≡ failing last o why → outcome s at bytes ≡ faulty o why
fails_outcome s at last o why bytes e = run_outcome s at (at + length bytes) bytes (failing last o why) e refl

-- two states that lead to the same come to the same
pub same_outcome : (s t : State) (at next : ℕ) (bytes rest : List ℕ) (o : Outcome) → run s at bytes ≡ run t next rest
    → at + length bytes ≡ next + length rest → outcome t next rest ≡ o → outcome s at bytes ≡ o
same_outcome s t at next bytes rest o e there f =
    run_outcome s at (next + length rest) bytes (run t next rest) e there ∙ outcome_run t next rest ∙ f

-- the first byte comes with a fault
pub led_fails : (n : Nest) (l : Lexeme) (at x o : ℕ) (rest : List ℕ) (why : TextWhy) → IsGoing n → led n at x l ≡ Err (o, why)
    → outcome (state_in n l) at (x ∷ rest) ≡ faulty o why
led_fails n l at x o rest why goes e = fails_outcome (state_in n l) at at o why (x ∷ rest) (run_led n l at x rest (Err (o, why)) goes e)

-- the machine goes on with it
pub led_outcome : (n : Nest) (l k : Lexeme) (at x : ℕ) (rest : List ℕ) → IsGoing n → led n at x l ≡ in_lexeme n k
    → outcome (state_in n l) at (x ∷ rest) ≡ outcome (state_in n k) (at + 1) rest
led_outcome n l k at x rest goes e =
    same_outcome (state_in n l) (state_in n k) at (at + 1) (x ∷ rest) rest _ (run_led n l at x rest (in_lexeme n k) goes e) (omega arith) refl

-- ---- from a state to another

-- some bytes in front of the rest lead from a state to another
pub record Reads (s : State) (at : ℕ) (bytes : List ℕ) (t : State) (rest : List ℕ) : Type 0 where
  pub to : ℕ
  pub offset : at + length bytes ≡ to + length rest
  pub same : run s at bytes ≡ run t to rest

pub reads_none : (s : State) (at : ℕ) (bytes : List ℕ) → Reads s at bytes s bytes
reads_none s at bytes = record { to = at; offset = refl; same = refl }

pub reads_more : (n : Nest) (l k : Lexeme) (t : State) (at x : ℕ) (bytes rest : List ℕ) → IsGoing n → led n at x l ≡ in_lexeme n k
    → Reads (state_in n k) (at + 1) bytes t rest → Reads (state_in n l) at (x ∷ bytes) t rest
reads_more n l k t at x bytes rest goes e r = record {
  to = r.to;
  offset = omega (arith, r.offset);
  same = run_led n l at x bytes (in_lexeme n k) goes e ∙ r.same;
}

pub reads_both : (s t u : State) (at : ℕ) (bytes middle rest : List ℕ) (r : Reads s at bytes t middle) → Reads t r.to middle u rest → Reads s at bytes u rest
reads_both s t u at bytes middle rest r f = record { to = f.to; offset = r.offset ∙ f.offset; same = r.same ∙ f.same }

pub reads_outcome : (s t : State) (at : ℕ) (bytes rest : List ℕ) (r : Reads s at bytes t rest) → outcome s at bytes ≡ outcome t r.to rest
reads_outcome s t at bytes rest r = same_outcome s t at r.to bytes rest (outcome t r.to rest) r.same r.offset refl
