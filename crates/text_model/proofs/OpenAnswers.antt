-- The machine's answer where the input goes on.
use Rattle.std.proofs.Common.{◌≡◌, ℕ, ◌+◌, Bool, true, false, cond, ◌&&◌, List, [], ◌∷◌, ◌++◌, length, length-append, Option, Some, None, is_none}
use Rattle.std.proofs.Common.{refl, ap, ◌∙◌, sym, subst, append-nil, arith}
use Rattle.std.proofs.lemmas.Bool.{and_parts}
use Rattle.dets_term.specs.TermValue.{TermValue}
use Rattle.text_model.specs.declared.fault.TextWhy.{TextWhy}
use Rattle.text_model.specs.declared.fault.TextWhy.TheVariants.{Unfinished, TooLong}
use Rattle.text_model.specs.Sentence.{ends, HasNone}
use Rattle.text_model.specs.Faults.{Breaks, IsTooLong, IsUnfinished, FaultOf}
use Rattle.text_model.specs.Script.{blank, may_go_on, IsFault, IsAnswer, no_term}
use Rattle.text_model.specs.Reader.{is_blank, last_fault, fresh_state, behind_stop, term_there, faulty, outcome}
use Rattle.text_model.specs.Progress.{Progress, Reached, going as all_read, at_stop as stopped_at, failing as failed, answer_at_stop, answer_by}
use Rattle.text_model.specs.Progress.{no_progress, reach}
use Rattle.text_model.proofs.Runs.{ended, outcome_run}
use Rattle.text_model.proofs.Outcomes.{breaks_outcome}
use Rattle.text_model.proofs.Liveness.{live}
use Rattle.text_model.proofs.TooLong.{too_long_reach}
use Rattle.text_model.proofs.ReachMore.{reach_on, reach_more}
use Rattle.text_model.proofs.Reaches.{stop_run, next_is, none_next}
use Rattle.text_model.proofs.ReachedFaults.{failing_fault, stop_fault}
use Rattle.text_model.proofs.UniqueAnswers.{blank_read, Kind, long, unfinished, rule, kind_of}
use Rattle.text_model.proofs.FinishedAnswers.{at_end_of, none_read, read_blank, blank_there, none_failing}

-- what follows some bytes
more_bytes : (bytes more : List ℕ) (r : Reached) → reach no_progress bytes ≡ r → reach no_progress (bytes ++ more) ≡ reach_on r more
more_bytes bytes more r e = sym (reach_more no_progress bytes more) ∙ ap (λ q. reach_on q more) e

-- ---- faults whatever follows

failing_on : (bytes : List ℕ) (o : ℕ) (why : TextWhy) → reach no_progress bytes ≡ failed o why → IsFault false bytes o why
failing_on bytes o why e more = failing_fault (bytes ++ more) o why (more_bytes bytes more (failed o why) e)

no_more : (bytes : List ℕ) (r : Reached) → reach no_progress bytes ≡ r → (o : ℕ) → (r ≡ failed o TooLong → ⊥) → IsTooLong bytes o → ⊥
no_more bytes r e o h l = h (sym e ∙ too_long_reach bytes o l)

-- a rule, where bytes that are too long are none, and where the end is not told
rule_of : (bytes : List ℕ) (o : ℕ) (why : TextWhy) → (why ≡ TooLong → ⊥) → (why ≡ Unfinished → ⊥) → Kind bytes o why → Breaks bytes o why
rule_of bytes o why h g (long e l) = absurd (h e)
rule_of bytes o why h g (unfinished e u) = absurd (g e)
rule_of bytes o why h g (rule b short) = b

-- ---- where all bytes were read

-- the end is not told of each continuation
end_moves : (bytes : List ℕ) (o : ℕ) → IsFault false bytes o Unfinished → ⊥
end_moves bytes o all =
    let none : IsUnfinished (bytes ++ []) o = all [] in
    let one : IsUnfinished (bytes ++ 0 ∷ []) o = all (0 ∷ []) in
    let first : o ≡ length (bytes ++ []) = none.end in
    let second : o ≡ length (bytes ++ 0 ∷ []) = one.end in
    omega (arith, length-append bytes [], length-append bytes (0 ∷ []))

read_no_fault : (bytes : List ℕ) (p : Progress) (o : ℕ) (why : TextWhy) → reach no_progress bytes ≡ all_read p → IsFault false bytes o why → ⊥
read_no_fault bytes p o why e all =
    let is = at_end_of bytes p e in
    let now : reach no_progress (bytes ++ []) ≡ all_read p = ap (reach no_progress) (append-nil bytes) ∙ e in
    let not_long : why ≡ TooLong → ⊥ =
    λ (f : why ≡ TooLong). no_more (bytes ++ []) (all_read p) now o (λ g. cc) (subst (λ w. FaultOf (bytes ++ []) o w) f (all [])) in
    let not_end : why ≡ Unfinished → ⊥ = λ (f : why ≡ Unfinished). end_moves bytes o (λ more. subst (λ w. FaultOf (bytes ++ more) o w) f (all more)) in
    live bytes p.state o why is.goes is.same
    (λ more. rule_of (bytes ++ more) o why not_long not_end (kind_of (bytes ++ more) o why (all more)))

none_told : (last : Option (ℕ × TextWhy)) → is_none last ≡ true → last ≡ None
none_told None e = refl
none_told (Some told) e = cc

read_so_far : (bytes : List ℕ) (p : Progress) (b : Bool) → reach no_progress bytes ≡ all_read p
    → (is_blank p.state && is_none (last_fault p.state.nest p.read p.state.lexeme)) ≡ b → IsAnswer false bytes (no_term (cond b blank may_go_on))
read_so_far bytes p true e f =
    let parts = and_parts _ _ f in (none_read false bytes p e, read_blank bytes p e parts.0 (none_told _ parts.1))
read_so_far bytes p false e f = (
  none_read false bytes p e,
  (
    refl,
    (λ b. let there = blank_there bytes p e b in let never : true ≡ false = sym (rw (there.0, there.1)) ∙ f in cc),
    λ o why all. read_no_fault bytes p o why e all,
  ),
)

-- ---- behind a full stop

-- a term that is next has no fault
next_no_fault : (bytes : List ℕ) (t : TermValue) (last : ℕ) (rest : List ℕ) (o : ℕ) (why : TextWhy) → reach no_progress bytes ≡ stopped_at t last rest
    → ends true rest ≡ Some true → outcome fresh_state 0 bytes ≡ term_there t last rest → Kind bytes o why → ⊥
next_no_fault bytes t last rest o why e f g (long h l) = no_more bytes (stopped_at t last rest) e o (λ k. cc) l
next_no_fault bytes t last rest o why e f g (unfinished h u) = u.no_term t last (next_is true bytes t last rest e f)
next_no_fault bytes t last rest o why e f g (rule b short) =
    let never : term_there t last rest ≡ faulty o why = sym g ∙ breaks_outcome bytes o why b in cc

stop_outcome : (bytes : List ℕ) (t : TermValue) (last : ℕ) (rest : List ℕ) → reach no_progress bytes ≡ stopped_at t last rest
    → outcome fresh_state 0 bytes ≡ behind_stop t last rest
stop_outcome bytes t last rest e =
    sym (outcome_run fresh_state 0 bytes) ∙ ap (λ r. ended r (0 + length bytes)) (stop_run bytes t last rest e)

-- white space behind the full stop makes it an end
stop_no_fault : (bytes : List ℕ) (t : TermValue) (last o : ℕ) (why : TextWhy) → reach no_progress bytes ≡ stopped_at t last [] → IsFault false bytes o why → ⊥
stop_no_fault bytes t last o why e all =
    let longer = bytes ++ 32 ∷ [] in
    let more : reach no_progress longer ≡ stopped_at t last (32 ∷ []) = more_bytes bytes (32 ∷ []) (stopped_at t last []) e in
    next_no_fault longer t last (32 ∷ []) o why more refl (stop_outcome longer t last (32 ∷ []) more) (kind_of longer o why (all (32 ∷ [])))

none_stopped : (bytes : List ℕ) (t : TermValue) (last : ℕ) (rest : List ℕ) → reach no_progress bytes ≡ stopped_at t last rest
    → (ends false rest ≡ Some true → ⊥) → HasNone false bytes
none_stopped bytes t last rest e h =
    none_next false bytes (λ u n behind g f.
    let same : stopped_at t last rest ≡ stopped_at u n behind = sym e ∙ g in
    let alike : rest ≡ behind = cc in
    h (ap (ends false) alike ∙ f))

stopped_is : (bytes : List ℕ) (t : TermValue) (last : ℕ) (rest : List ℕ) (end : Option Bool) → reach no_progress bytes ≡ stopped_at t last rest
    → ends false rest ≡ end → IsAnswer false bytes (answer_at_stop t last end)
stopped_is bytes t last rest (Some true) e f = next_is false bytes t last rest e f
stopped_is bytes t last [] (Some false) e f = cc
stopped_is bytes t last (x ∷ rest) (Some false) e f = (
  none_stopped bytes t last (x ∷ rest) e (λ g. let never : Some false ≡ Some true = sym f ∙ g in cc),
  λ more. stop_fault (bytes ++ more) t last (x ∷ (rest ++ more)) (more_bytes bytes more (stopped_at t last (x ∷ rest)) e) f,
)
stopped_is bytes t last [] None e f = (
  none_stopped bytes t last [] e (λ g. cc),
  (
    refl,
    (λ b. let is = blank_read bytes b in let never : all_read is.progress ≡ stopped_at t last [] = sym is.same ∙ e in cc),
    λ o why all. stop_no_fault bytes t last o why e all,
  ),
)
stopped_is bytes t last (x ∷ rest) None e f = cc

-- ---- any input

pub open_is : (bytes : List ℕ) (r : Reached) → reach no_progress bytes ≡ r → IsAnswer false bytes (answer_by false r)
open_is bytes (all_read p) e = read_so_far bytes p _ e refl
open_is bytes (stopped_at t last rest) e = stopped_is bytes t last rest (ends false rest) e refl
open_is bytes (failed o why) e = (none_failing false bytes o why e, failing_on bytes o why e)
