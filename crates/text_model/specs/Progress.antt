-- The machine that reads bytes, with the number of bytes that a text may have, and what is answered behind them. The middle between
-- the definition of scripts and the code.
use Rattle.std.specs.Prelude.{ℕ, ◌+◌, ◌-◌, ◌==◌, ◌&&◌, cond, nat_le, Bool, true, false, List, [], ◌∷◌, Option, Some, None, is_none, Ok, Err}
use Rattle.dets_term.specs.TermValue.{TermValue}
use Rattle.text_model.specs.declared.fault.TextWhy.{TextWhy}
use Rattle.text_model.specs.declared.fault.TextWhy.TheVariants.{BadToken, Unfinished, TooLong}
use Rattle.text_model.specs.Sentence.{ends, longest}
use Rattle.text_model.specs.Script.{blank, may_go_on, fault, Answer, a_term, no_term}
use Rattle.text_model.specs.Nest.{Place, stopped}
use Rattle.text_model.specs.Reader.{State, Led, fresh_state, step, is_blank, last_fault}

pub record Progress : Type 0 where
  pub state : State
  -- the number of bytes that were read
  pub read : ℕ
  -- those of them in front of the sentence's first token
  pub blank : ℕ

abbrev pub no_progress : Progress
no_progress = record { state = fresh_state; read = 0; blank = 0 }

-- behind one more byte, which led to a state
abbrev pub counted : Progress → State → Progress
counted p s = record { state = s; read = p.read + 1; blank = cond ((p.blank == p.read) && is_blank s) (p.read + 1) p.blank }

-- what some bytes lead to
pub data Reached : Type 0 where
  -- all of them were read
  going : Progress → Reached
  -- behind a term's full stop, with the number of bytes that were read and those that follow
  at_stop : TermValue → ℕ → List ℕ → Reached
  -- an offset, and the rule that is broken
  failing : ℕ → TextWhy → Reached

abbrev pub reach_by : Led → (State → Reached) → Reached
reach_by (Ok s) next = next s
reach_by (Err why) next = failing why.0 why.1

-- what follows unless a full stop or too many bytes were read
abbrev pub unless_done : Progress → List ℕ → Reached → Place → Reached
unless_done p bytes next (stopped t) = at_stop t p.read bytes
unless_done p bytes next other = cond (nat_le (p.blank + longest) p.read) (failing p.blank TooLong) next

abbrev pub reach : Progress → List ℕ → Reached
reach p [] = unless_done p [] (going p) p.state.nest.place
reach p (x ∷ rest) = unless_done p (x ∷ rest) (reach_by (step p.state p.read x) (λ s. reach (counted p s) rest)) p.state.nest.place

-- ---- what is answered

-- behind a full stop, which is the last byte that was read
abbrev pub answer_at_stop : TermValue → ℕ → Option Bool → Answer
answer_at_stop t read (Some true) = a_term t read
answer_at_stop t read (Some false) = no_term (fault (read - 1) BadToken)
answer_at_stop t read None = no_term may_go_on

-- where all bytes were read and no full stop was: behind which nothing else may come, and which may go on
abbrev pub answer_at_end : Progress → Option (ℕ × TextWhy) → Answer
answer_at_end p (Some why) = no_term (fault why.0 why.1)
answer_at_end p None = no_term (cond (is_blank p.state) blank (fault p.read Unfinished))

abbrev pub answer_so_far : Progress → Option (ℕ × TextWhy) → Answer
answer_so_far p why = no_term (cond (is_blank p.state && is_none why) blank may_go_on)

abbrev pub answer_behind : Bool → Progress → Answer
answer_behind finished p =
    let why = last_fault p.state.nest p.read p.state.lexeme in cond finished (answer_at_end p why) (answer_so_far p why)

abbrev pub answer_by : Bool → Reached → Answer
answer_by finished (going p) = answer_behind finished p
answer_by finished (at_stop t read rest) = answer_at_stop t read (ends finished rest)
answer_by finished (failing offset why) = no_term (fault offset why)

-- what stands in front of some bytes
abbrev pub answer_of : Bool → List ℕ → Answer
answer_of finished bytes = answer_by finished (reach no_progress bytes)
