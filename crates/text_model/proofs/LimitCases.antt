-- What a run that is cut off at the limit on length tells of the run.
use Rattle.std.proofs.Common.{◌≡◌, ℕ, ◌+◌, ◌≤◌, Bool, true, false, cond, nat_le, List, ◌⊎◌, inl, inr, refl, ap, sym, arith}
use Rattle.std.proofs.lemmas.Bool.Decides.{nat_tests}
use Rattle.dets_term.specs.TermValue.{TermValue}
use Rattle.text_model.specs.declared.fault.TextWhy.{TextWhy}
use Rattle.text_model.specs.declared.fault.TextWhy.TheVariants.{TooLong}
use Rattle.text_model.specs.Sentence.{longest}
use Rattle.text_model.specs.Reader.{State}
use Rattle.text_model.specs.Progress.{Progress, Reached, going as all_read, at_stop as stopped_at, failing as failed, no_progress}
use Rattle.text_model.proofs.Runs.{Run, going, at_stop, failing}
use Rattle.text_model.proofs.Limited.{by_limit}
use Rattle.text_model.proofs.TooLong.{IsPast}

-- a run over all of some bytes that goes on
pub record IsRead (r : Run) (end : ℕ) (p : Progress) : Type 0 where
  pub same : r ≡ going p.state
  pub whole : p.read ≡ end

read_of : Reached → Progress
read_of (all_read p) = p
read_of (stopped_at t at rest) = no_progress
read_of (failed o why) = no_progress

pub same_progress : (q p : Progress) → all_read q ≡ all_read p → q ≡ p
unfolding read_of
same_progress q p e = ap read_of e

pub is_read : (s : State) (end o : ℕ) (p : Progress) → all_read (record { state = s; read = end; blank = o }) ≡ all_read p → IsRead (going s) end p
is_read s end o p e =
    let same = same_progress (record { state = s; read = end; blank = o }) p e in
    record { same = ap (λ (q : Progress). going q.state) same; whole = sym (ap (λ (q : Progress). q.read) same) }

read_by : (b : Bool) (s : State) (end o : ℕ) (p : Progress) → cond b (failed o TooLong) (all_read (record { state = s; read = end; blank = o })) ≡ all_read p
    → IsRead (going s) end p
read_by true s end o p e = cc
read_by false s end o p e = is_read s end o p e

not_read : (b : Bool) (t : TermValue) (at o : ℕ) (rest : List ℕ) (p : Progress) → cond b (stopped_at t at rest) (failed o TooLong) ≡ all_read p → ⊥
not_read true t at o rest p e = cc
not_read false t at o rest p e = cc

none_read : (b : Bool) (o f : ℕ) (why : TextWhy) (p : Progress) → cond b (failed o TooLong) (failed f why) ≡ all_read p → ⊥
none_read true o f why p e = cc
none_read false o f why p e = cc

pub limit_read : (o end : ℕ) (r : Run) (p : Progress) → by_limit o r end ≡ all_read p → IsRead r end p
limit_read o end (going s) p e = read_by (nat_le (o + longest) end) s end o p e
limit_read o end (at_stop t at rest) p e = absurd (not_read (nat_le at (o + longest)) t at o rest p e)
limit_read o end (failing at f why) p e = absurd (none_read (nat_le (o + longest) at) o f why p e)

stop_by : (b : Bool) (t u : TermValue) (at n o : ℕ) (rest behind : List ℕ) → cond b (stopped_at t at rest) (failed o TooLong) ≡ stopped_at u n behind
    → (b ≡ true) × (at_stop t at rest ≡ at_stop u n behind)
stop_by true t u at n o rest behind e = (refl, cc)
stop_by false t u at n o rest behind e = cc

no_stop : (b : Bool) (o : ℕ) (q : Reached) (u : TermValue) (n : ℕ) (behind : List ℕ) → (q ≡ stopped_at u n behind → ⊥)
    → cond b (failed o TooLong) q ≡ stopped_at u n behind → ⊥
no_stop true o q u n behind h e = cc
no_stop false o q u n behind h e = h e

pub limit_stop : (o end : ℕ) (r : Run) (t : TermValue) (at : ℕ) (rest : List ℕ) → by_limit o r end ≡ stopped_at t at rest
    → (r ≡ at_stop t at rest) × (at ≤ o + longest)
limit_stop o end (going s) t at rest e = absurd (no_stop (nat_le (o + longest) end) o _ t at rest (λ f. cc) e)
limit_stop o end (at_stop u n behind) t at rest e =
    let is = stop_by (nat_le n (o + longest)) u t n at o behind rest e in
    let few : n ≤ o + longest = within (nat_le n (o + longest)) n (o + longest) refl is.0 in
    let same : n ≡ at = let k = is.1 in cc in
    (is.1, omega arith)
  where
    within : (b : Bool) (m k : ℕ) → nat_le m k ≡ b → b ≡ true → m ≤ k
    within b m k e f = grind (arith, nat_tests)
limit_stop o end (failing n f why) t at rest e = absurd (no_stop (nat_le (o + longest) n) o _ t at rest (λ f. cc) e)

-- the limit, or a fault of the run
abbrev pub IsFailed : ℕ → Run → ℕ → ℕ → TextWhy → Type 0
IsFailed o r end u why = (IsPast (o + longest) r end × (u ≡ o) × (why ≡ TooLong)) ⊎ ((last : ℕ) × (r ≡ failing last u why))

pub limit_failed : (o end : ℕ) (r : Run) (u : ℕ) (why : TextWhy) → by_limit o r end ≡ failed u why → IsFailed o r end u why
limit_failed o end (going s) u why e = by (nat_le (o + longest) end) refl e
  where
    by : (b : Bool) → nat_le (o + longest) end ≡ b → cond b (failed o TooLong) (all_read (record { state = s; read = end; blank = o })) ≡ failed u why
        → IsFailed o (going s) end u why
    by true t e = inl (grind (arith, nat_tests), cc, cc)
    by false t e = cc
limit_failed o end (at_stop t at rest) u why e = by (nat_le at (o + longest)) refl e
  where
    by : (b : Bool) → nat_le at (o + longest) ≡ b → cond b (stopped_at t at rest) (failed o TooLong) ≡ failed u why → IsFailed o (at_stop t at rest) end u why
    by true t e = cc
    by false t e = inl (grind (arith, nat_tests), cc, cc)
limit_failed o end (failing at f w) u why e = by (nat_le (o + longest) at) refl e
  where
    by : (b : Bool) → nat_le (o + longest) at ≡ b → cond b (failed o TooLong) (failed f w) ≡ failed u why → IsFailed o (failing at f w) end u why
    by true t e = inl (grind (arith, nat_tests), cc, cc)
    by false t e = inr (at, cc)
