-- A term that stands in front of some bytes has at least one of them, its full stop, and no more than there are.
use Rattle.std.proofs.Common.{◌≡◌, ℕ, ◌+◌, ◌≤◌, ◌<◌, Bool, true, false, cond, nat_le, List, [], ◌∷◌, length, Option, Some, None, Ok, Err, refl, sym, arith}
use Rattle.dets_term.specs.TermValue.{TermValue}
use Rattle.text_model.specs.declared.fault.TextWhy.{TextWhy}
use Rattle.text_model.specs.declared.fault.TextWhy.TheVariants.{TooLong}
use Rattle.text_model.specs.Sentence.{ends, longest, IsNext}
use Rattle.text_model.specs.Script.{a_term, IsAnswer}
use Rattle.text_model.specs.Nest.{Place, stopped}
use Rattle.text_model.specs.Reader.{State, Led, fresh_state, step, last_fault}
use Rattle.text_model.specs.Progress.{Progress, no_progress, counted, Reached, going, at_stop, failing, reach_by, unless_done, reach}
use Rattle.text_model.specs.Progress.{answer_at_stop, answer_at_end, answer_by}
use Rattle.text_model.proofs.Answering.{answer_only}

stops_in_limit : (long : Bool) (at : ℕ) (next : Reached) (t : TermValue) (read : ℕ) (rest : List ℕ)
    → cond long (failing at TooLong) next ≡ at_stop t read rest → next ≡ at_stop t read rest
stops_in_limit true at next t read rest e = cc
stops_in_limit false at next t read rest e = e

stops_by : (p : Progress) (bytes : List ℕ) (next : Reached) (place : Place) (t : TermValue) (read : ℕ) (rest : List ℕ)
    → (next ≡ at_stop t read rest → p.read ≤ read) → unless_done p bytes next place ≡ at_stop t read rest → p.read ≤ read
stops_by p bytes next (stopped u) t read rest later e = let same : p.read ≡ read = cc in omega arith
stops_by p bytes next other t read rest later e =
    later (stops_in_limit (nat_le (p.blank + longest) p.read) p.blank next t read rest e)

led_behind : (p : Progress) (led : Led) (bytes : List ℕ) (t : TermValue) (read : ℕ) (rest : List ℕ)
    → ((s : State) → reach (counted p s) bytes ≡ at_stop t read rest → p.read + 1 ≤ read)
    → reach_by led (λ s. reach (counted p s) bytes) ≡ at_stop t read rest → p.read + 1 ≤ read
led_behind p (Ok s) bytes t read rest later e = later s e
led_behind p (Err why) bytes t read rest later e = cc

-- a full stop is behind all that was read
stops_behind : (p : Progress) (bytes : List ℕ) (t : TermValue) (read : ℕ) (rest : List ℕ) → reach p bytes ≡ at_stop t read rest → p.read ≤ read
stops_behind p [] t read rest e = stops_by p [] (going p) p.state.nest.place t read rest (λ f. cc) e
stops_behind p (x ∷ bytes) t read rest e =
    stops_by p (x ∷ bytes) (reach_by (step p.state p.read x) (λ s. reach (counted p s) bytes)) p.state.nest.place t read rest
    (λ f. let more = led_behind p (step p.state p.read x) bytes t read rest (λ s. stops_behind (counted p s) bytes t read rest) f in omega arith) e

stop_some : (bytes : List ℕ) (t : TermValue) (read : ℕ) (rest : List ℕ) → reach no_progress bytes ≡ at_stop t read rest → 0 < read
stop_some [] t read rest e = cc
stop_some (x ∷ bytes) t read rest e =
    led_behind no_progress (step fresh_state 0 x) bytes t read rest (λ s. stops_behind (counted no_progress s) bytes t read rest) e

-- ---- what is answered

no_term_at_end : (p : Progress) (why : Option (ℕ × TextWhy)) (t : TermValue) (taken : ℕ) → answer_at_end p why ≡ a_term t taken → ⊥
no_term_at_end p None t taken e = cc
no_term_at_end p (Some why) t taken e = cc

stop_read : (u : TermValue) (read : ℕ) (end : Option Bool) (t : TermValue) (taken : ℕ) → answer_at_stop u read end ≡ a_term t taken → read ≡ taken
stop_read u read (Some true) t taken a = cc
stop_read u read other t taken a = cc

term_at_stop : (finished : Bool) (bytes : List ℕ) (r : Reached) → reach no_progress bytes ≡ r → (t : TermValue) (taken : ℕ)
    → answer_by finished r ≡ a_term t taken → 0 < taken
term_at_stop true bytes (going p) e t taken a = absurd (no_term_at_end p (last_fault p.state.nest p.read p.state.lexeme) t taken a)
term_at_stop false bytes (going p) e t taken a = cc
term_at_stop finished bytes (at_stop u read rest) e t taken a =
    let same = stop_read u read (ends finished rest) t taken a in omega (arith, stop_some bytes u read rest e, same)
term_at_stop finished bytes (failing at why) e t taken a = cc

pub term_some : (finished : Bool) (bytes : List ℕ) (t : TermValue) (taken : ℕ) → IsAnswer finished bytes (a_term t taken) → 0 < taken
term_some finished bytes t taken is =
    term_at_stop finished bytes (reach no_progress bytes) refl t taken (sym (answer_only finished bytes (a_term t taken) is))

pub term_within : (finished : Bool) (bytes : List ℕ) (t : TermValue) (taken : ℕ) → IsNext finished bytes t taken → taken ≤ length bytes
term_within finished bytes t taken is = omega (arith, is.there)
