-- The machine's answer where the input is finished.
use Rattle.std.proofs.Common.{◌≡◌, ℕ, ◌+◌, Bool, true, false, cond, List, [], ◌∷◌, length, Option, Some, None, refl, ap, ◌∙◌, sym, arith}
use Rattle.dets_term.specs.TermValue.{TermValue}
use Rattle.text_model.specs.declared.fault.TextWhy.{TextWhy}
use Rattle.text_model.specs.declared.fault.TextWhy.TheVariants.{Unfinished}
use Rattle.text_model.specs.Sentence.{ends, HasNone}
use Rattle.text_model.specs.Faults.{Breaks, IsBlankEnd}
use Rattle.text_model.specs.Script.{blank, fault, IsAnswer, no_term}
use Rattle.text_model.specs.Reader.{is_blank, last_fault, fresh_state, or_unfinished, at_end, faulty, outcome}
use Rattle.text_model.specs.Progress.{Progress, Reached, going as all_read, at_stop as stopped_at, failing as failed, answer_at_stop, answer_at_end}
use Rattle.text_model.specs.Progress.{answer_by, no_progress, reach}
use Rattle.text_model.proofs.Runs.{going, run, ended, outcome_run}
use Rattle.text_model.proofs.RunsCome.{Goes}
use Rattle.text_model.proofs.ComesLast.{comes_last}
use Rattle.text_model.proofs.RowsBreak.{last_breaks, blank_end}
use Rattle.text_model.proofs.Outcomes.{breaks_outcome}
use Rattle.text_model.proofs.BegunTexts.{tells}
use Rattle.text_model.proofs.Liveness.{breaks_why, end_or_none}
use Rattle.text_model.proofs.LimitCases.{same_progress}
use Rattle.text_model.proofs.Reaches.{reach_read, next_is, none_next}
use Rattle.text_model.proofs.ReachedFaults.{rule_fault, not_long, failing_fault, stop_fault}
use Rattle.text_model.proofs.UniqueAnswers.{blank_read}

-- ---- where all bytes were read

-- what the machine knows there
pub record IsAtEnd (bytes : List ℕ) (p : Progress) : Type 0 where
  pub same : run fresh_state 0 bytes ≡ going p.state
  pub whole : p.read ≡ length bytes
  pub goes : Goes bytes p.state

pub at_end_of : (bytes : List ℕ) (p : Progress) → reach no_progress bytes ≡ all_read p → IsAtEnd bytes p
at_end_of bytes p e =
    let read = reach_read bytes p e in record { same = read.same; whole = read.whole; goes = tells bytes (going p.state) read.same }

pub none_read : (finished : Bool) (bytes : List ℕ) (p : Progress) → reach no_progress bytes ≡ all_read p → HasNone finished bytes
none_read finished bytes p e = none_next finished bytes (λ t last rest f g. let never : all_read p ≡ stopped_at t last rest = sym e ∙ f in cc)

fault_at : (bytes : List ℕ) (p : Progress) (last : Option (ℕ × TextWhy)) → p.read ≡ length bytes
    → last_fault p.state.nest p.read p.state.lexeme ≡ last → last_fault p.state.nest (length bytes) p.state.lexeme ≡ last
fault_at bytes p last e f = ap (λ n. last_fault p.state.nest n p.state.lexeme) (sym e) ∙ f

-- no token is begun, and no fault is told: blanks alone
pub read_blank : (bytes : List ℕ) (p : Progress) → reach no_progress bytes ≡ all_read p → is_blank p.state ≡ true
    → last_fault p.state.nest p.read p.state.lexeme ≡ None → IsBlankEnd bytes
read_blank bytes p e b f = let is = at_end_of bytes p e in blank_end bytes p.state is.goes.comes b (fault_at bytes p None is.whole f)

-- and back
pub blank_there : (bytes : List ℕ) (p : Progress) → reach no_progress bytes ≡ all_read p → IsBlankEnd bytes
    → (is_blank p.state ≡ true) × (last_fault p.state.nest p.read p.state.lexeme ≡ None)
blank_there bytes p e b =
    let is = blank_read bytes b in
    let same : is.progress ≡ p = same_progress is.progress p (sym is.same ∙ e) in (
      ap (λ (q : Progress). is_blank q.state) (sym same) ∙ is.none_begun,
      ap (λ (q : Progress). last_fault q.state.nest q.read q.state.lexeme) (sym same) ∙ is.no_fault,
    )

read_outcome : (bytes : List ℕ) (p : Progress) → IsAtEnd bytes p → outcome fresh_state 0 bytes ≡ at_end p.state (length bytes)
read_outcome bytes p is =
    sym (outcome_run fresh_state 0 bytes) ∙ ap (λ r. ended r (0 + length bytes)) is.same
    ∙ ap (at_end p.state) (let k : 0 + length bytes ≡ length bytes = omega arith in k)

no_rule : (bytes : List ℕ) (p : Progress) (o : ℕ) (why : TextWhy) → IsAtEnd bytes p → last_fault p.state.nest p.read p.state.lexeme ≡ None
    → Breaks bytes o why → ⊥
no_rule bytes p o why is e b =
    let told : or_unfinished p.state (length bytes) None ≡ faulty o why =
    ap (or_unfinished p.state (length bytes)) (sym (fault_at bytes p None is.whole e)) ∙ sym (read_outcome bytes p is) ∙ breaks_outcome bytes o why b in
    breaks_why bytes o why b (end_or_none (is_blank p.state) (length bytes) o why told)

ends_blank : (bytes : List ℕ) (p : Progress) (b : Bool) → reach no_progress bytes ≡ all_read p → last_fault p.state.nest p.read p.state.lexeme ≡ None
    → is_blank p.state ≡ b → IsAnswer true bytes (no_term (cond b blank (fault p.read Unfinished)))
ends_blank bytes p true e f b = (none_read true bytes p e, read_blank bytes p e b f)
ends_blank bytes p false e f b =
    let is = at_end_of bytes p e in (
      none_read true bytes p e,
      record {
        end = is.whole;
        not_blank = λ k. let t = blank_there bytes p e k in let never : true ≡ false = sym t.0 ∙ b in cc;
        no_term = none_read true bytes p e;
        short = not_long bytes (all_read p) e (λ u g. cc);
        no_rule = λ o why r. no_rule bytes p o why is f r;
      },
    )

end_is : (bytes : List ℕ) (p : Progress) (last : Option (ℕ × TextWhy)) → reach no_progress bytes ≡ all_read p
    → last_fault p.state.nest p.read p.state.lexeme ≡ last → IsAnswer true bytes (answer_at_end p last)
end_is bytes p None e f = ends_blank bytes p (is_blank p.state) e f refl
end_is bytes p (Some told) e f =
    let is = at_end_of bytes p e in
    let b : Breaks bytes told.0 told.1 =
    last_breaks bytes told.0 told.1 (comes_last bytes p.state.nest p.state.lexeme told is.goes.comes (fault_at bytes p (Some told) is.whole f)) in
    (none_read true bytes p e, rule_fault bytes told.0 told.1 b (not_long bytes (all_read p) e (λ u g. cc)))

-- ---- behind a full stop

stop_is : (bytes : List ℕ) (t : TermValue) (last : ℕ) (rest : List ℕ) (end : Option Bool) → reach no_progress bytes ≡ stopped_at t last rest
    → ends true rest ≡ end → IsAnswer true bytes (answer_at_stop t last end)
stop_is bytes t last rest (Some true) e f = next_is true bytes t last rest e f
stop_is bytes t last rest (Some false) e f = (
  none_next true bytes (λ u n behind g h.
      let same : stopped_at t last rest ≡ stopped_at u n behind = sym e ∙ g in
      let alike : rest ≡ behind = cc in
      let never : Some false ≡ Some true = sym f ∙ ap (ends true) alike ∙ h in cc),
  stop_fault bytes t last rest e f,
)
stop_is bytes t last rest None e f = absurd (always rest f)
  where
    always : (rest : List ℕ) → ends true rest ≡ None → ⊥
    always [] e = cc
    always (x ∷ rest) e = cc

-- ---- any input

pub none_failing : (finished : Bool) (bytes : List ℕ) (o : ℕ) (why : TextWhy) → reach no_progress bytes ≡ failed o why → HasNone finished bytes
none_failing finished bytes o why e = none_next finished bytes (λ t last rest f g. let never : failed o why ≡ stopped_at t last rest = sym e ∙ f in cc)

pub finished_is : (bytes : List ℕ) (r : Reached) → reach no_progress bytes ≡ r → IsAnswer true bytes (answer_by true r)
finished_is bytes (all_read p) e = end_is bytes p (last_fault p.state.nest p.read p.state.lexeme) e refl
finished_is bytes (stopped_at t last rest) e = stop_is bytes t last rest (ends true rest) e refl
finished_is bytes (failed o why) e = (none_failing true bytes o why e, failing_fault bytes o why e)
