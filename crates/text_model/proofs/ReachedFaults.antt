-- A fault that the machine tells within the limit on length is the fault of the bytes.
use Rattle.std.proofs.Common.{◌≡◌, ℕ, ◌+◌, ◌-◌, true, false, List, ◌++◌, length, Some, inl, inr, ◌∙◌, sym, subst}
use Rattle.dets_term.specs.TermValue.{TermValue}
use Rattle.text_model.specs.declared.fault.TextWhy.{TextWhy}
use Rattle.text_model.specs.declared.fault.TextWhy.TheVariants.{BadToken, Unfinished, TooLong}
use Rattle.text_model.specs.Sentence.{BeginsAt, ends}
use Rattle.text_model.specs.Faults.{Breaks, IsTooLong, FaultOf}
use Rattle.text_model.specs.Reader.{fresh_state}
use Rattle.text_model.specs.Progress.{Reached, going as all_read, at_stop as stopped_at, failing as failed, no_progress, reach}
use Rattle.text_model.proofs.Runs.{at_stop, failing, run}
use Rattle.text_model.proofs.RunsCome.{Stops}
use Rattle.text_model.proofs.RowsBreak.{stop_breaks}
use Rattle.text_model.proofs.BlankFronts.{blank_at}
use Rattle.text_model.proofs.BegunTexts.{tells, View, begins, blanks, fails, view}
use Rattle.text_model.proofs.TooLong.{too_long_is, too_long_reach, fault_breaks}
use Rattle.text_model.proofs.LimitCases.{IsFailed, limit_failed}
use Rattle.text_model.proofs.Reaches.{stop_run}

-- a rule that is broken, where no text is too long
pub rule_fault : (bytes : List ℕ) (o : ℕ) (why : TextWhy) → Breaks bytes o why → ((u : ℕ) → IsTooLong bytes u → ⊥) → FaultOf bytes o why
rule_fault bytes o Unfinished b short = absurd b
rule_fault bytes o TooLong b short = absurd b
rule_fault bytes o other b short = (b, short)

-- no text is too long where this is not what the bytes lead to
pub not_long : (bytes : List ℕ) (r : Reached) → reach no_progress bytes ≡ r → ((u : ℕ) → r ≡ failed u TooLong → ⊥) → (u : ℕ) → IsTooLong bytes u → ⊥
not_long bytes r e h u l = h u (sym e ∙ too_long_reach bytes u l)

failing_rule : (bytes : List ℕ) (last o : ℕ) (why : TextWhy) → reach no_progress bytes ≡ failed o why → run fresh_state 0 bytes ≡ failing last o why
    → FaultOf bytes o why
failing_rule bytes last o why e r =
    let b : Breaks bytes o why = fault_breaks bytes last o why (tells bytes (failing last o why) r) in
    rule_fault bytes o why b (not_long bytes (failed o why) e (λ u f. let same : why ≡ TooLong = cc in subst (Breaks bytes o) same b))

failing_by : (bytes at : List ℕ) (u o : ℕ) (why : TextWhy) → reach no_progress bytes ≡ failed o why → BeginsAt bytes at → length bytes ≡ u + length at
    → IsFailed u (run fresh_state 0 bytes) (length bytes) o why → FaultOf bytes o why
failing_by bytes at u o why e b there (inl (past, offset, long)) =
    let is : FaultOf bytes u TooLong = too_long_is bytes at u b there past in
    subst (λ w. FaultOf bytes o w) (sym long) (subst (λ k. FaultOf bytes k TooLong) (sym offset) is)
failing_by bytes at u o why e b there (inr (last, r)) = failing_rule bytes last o why e r

failing_view : (bytes : List ℕ) (o : ℕ) (why : TextWhy) → reach no_progress bytes ≡ failed o why → View bytes → FaultOf bytes o why
failing_view bytes o why e (begins at u b there f) =
    failing_by bytes at u o why e b there (limit_failed u (length bytes) (run fresh_state 0 bytes) o why (sym f ∙ e))
failing_view bytes o why e (blanks m g f r) = let never : all_read (blank_at m (length bytes)) ≡ failed o why = sym f ∙ e in cc
failing_view bytes o why e (fails last u w f r) =
    let same : failed u w ≡ failed o why = sym f ∙ e in
    let fault : failing last u w ≡ failing last o why = cc in
    failing_rule bytes last o why e (r ∙ fault)

-- a fault that the machine tells is the fault of the bytes
pub failing_fault : (bytes : List ℕ) (o : ℕ) (why : TextWhy) → reach no_progress bytes ≡ failed o why → FaultOf bytes o why
failing_fault bytes o why e = failing_view bytes o why e (view bytes)

-- and so is a full stop that is no end
pub stop_fault : (bytes : List ℕ) (t : TermValue) (last : ℕ) (rest : List ℕ) → reach no_progress bytes ≡ stopped_at t last rest
    → ends true rest ≡ Some false → FaultOf bytes (last - 1) BadToken
stop_fault bytes t last rest e f =
    let stops : Stops bytes t last rest = tells bytes (at_stop t last rest) (stop_run bytes t last rest e) in
    let b : Breaks (stops.front ++ rest) (length stops.front - 1) BadToken =
    stop_breaks stops.front stops.state.nest stops.state.lexeme t stops.comes stops.stop rest f in
    rule_fault bytes (last - 1) BadToken
    (subst (λ l. Breaks l (last - 1) BadToken) (sym stops.whole) (subst (λ k. Breaks (stops.front ++ rest) (k - 1) BadToken) (sym stops.there) b))
    (not_long bytes (stopped_at t last rest) e (λ u g. cc))
