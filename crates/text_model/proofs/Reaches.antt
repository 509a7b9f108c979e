-- What some bytes lead to within the limit on length: a term that is next, or a fault by its rule.
use Rattle.std.proofs.Common.{◌≡◌, ℕ, ◌+◌, ◌≤◌, Bool, true, List, length, length-append, Some, ap, ◌∙◌, sym, subst, arith}
use Rattle.dets_term.specs.TermValue.{TermValue}
use Rattle.text_model.specs.Sentence.{IsSentence, BeginsAt, ends, longest, IsNext, HasNone}
use Rattle.text_model.specs.Reader.{fresh_state}
use Rattle.text_model.specs.Progress.{Progress, going as all_read, at_stop as stopped_at, failing as failed, no_progress, reach}
use Rattle.text_model.proofs.Runs.{at_stop, run}
use Rattle.text_model.proofs.RunsCome.{Stops}
use Rattle.text_model.proofs.RowsBreak.{stop_sentence}
use Rattle.text_model.proofs.Limited.{by_limit, if_le}
use Rattle.text_model.proofs.BlankFronts.{blank_at}
use Rattle.text_model.proofs.BegunTexts.{tells, View, begins, blanks, fails, view, begun_limited}
use Rattle.text_model.proofs.LimitCases.{IsRead, is_read, limit_read, limit_stop}
use Rattle.text_model.proofs.WellRead.{sentence_run}

-- ---- bytes that are all read

read_view : (bytes : List ℕ) (p : Progress) → reach no_progress bytes ≡ all_read p → View bytes → IsRead (run fresh_state 0 bytes) (length bytes) p
read_view bytes p e (begins at o b there f) = limit_read o (length bytes) (run fresh_state 0 bytes) p (sym f ∙ e)
read_view bytes p e (blanks m g f r) =
    subst (λ u. IsRead u (length bytes) p) (sym r) (is_read (blank_at m (length bytes)).state (length bytes) (length bytes) p (sym f ∙ e))
read_view bytes p e (fails last o why f r) = let never : failed o why ≡ all_read p = sym f ∙ e in cc

pub reach_read : (bytes : List ℕ) (p : Progress) → reach no_progress bytes ≡ all_read p → IsRead (run fresh_state 0 bytes) (length bytes) p
reach_read bytes p e = read_view bytes p e (view bytes)

-- ---- terms

-- a full stop that is not too far from where the text begins
record IsStopped (bytes : List ℕ) (t : TermValue) (last : ℕ) (rest : List ℕ) : Type 0 where
  pub at : List ℕ
  pub begins : BeginsAt bytes at
  pub within : length at ≤ length rest + longest
  pub same : run fresh_state 0 bytes ≡ at_stop t last rest
  pub there : length bytes ≡ last + length rest

stop_length : (bytes : List ℕ) (t : TermValue) (last : ℕ) (rest : List ℕ) → Stops bytes t last rest → length bytes ≡ last + length rest
stop_length bytes t last rest s = let there : last ≡ length s.front = s.there in omega (arith, ap length s.whole, length-append s.front rest)

stop_view : (bytes : List ℕ) (t : TermValue) (last : ℕ) (rest : List ℕ) → reach no_progress bytes ≡ stopped_at t last rest → View bytes
    → IsStopped bytes t last rest
stop_view bytes t last rest e (begins at o b there f) =
    let is = limit_stop o (length bytes) (run fresh_state 0 bytes) t last rest (sym f ∙ e) in
    let few : last ≤ o + longest = is.1 in
    let all = stop_length bytes t last rest (tells bytes (at_stop t last rest) is.0) in
    record { at = at; begins = b; within = omega arith; same = is.0; there = all }
stop_view bytes t last rest e (blanks m g f r) = let never : all_read (blank_at m (length bytes)) ≡ stopped_at t last rest = sym f ∙ e in cc
stop_view bytes t last rest e (fails at o why f r) = let never : failed o why ≡ stopped_at t last rest = sym f ∙ e in cc

is_stopped : (bytes : List ℕ) (t : TermValue) (last : ℕ) (rest : List ℕ) → reach no_progress bytes ≡ stopped_at t last rest → IsStopped bytes t last rest
is_stopped bytes t last rest e = stop_view bytes t last rest e (view bytes)

pub stop_run : (bytes : List ℕ) (t : TermValue) (last : ℕ) (rest : List ℕ) → reach no_progress bytes ≡ stopped_at t last rest
    → run fresh_state 0 bytes ≡ at_stop t last rest
stop_run bytes t last rest e = let s = is_stopped bytes t last rest e in s.same

-- a full stop that is an end has a term in front
pub next_is : (finished : Bool) (bytes : List ℕ) (t : TermValue) (last : ℕ) (rest : List ℕ) → reach no_progress bytes ≡ stopped_at t last rest
    → ends finished rest ≡ Some true → IsNext finished bytes t last
next_is finished bytes t last rest e f =
    let s = is_stopped bytes t last rest e in
    let stops : Stops bytes t last rest = tells bytes (at_stop t last rest) s.same in
    record {
      rest = rest;
      at = s.at;
      there = s.there;
      sentence =
          subst (λ l. IsSentence t l rest) (sym stops.whole)
          (stop_sentence stops.front stops.state.nest stops.state.lexeme t stops.comes stops.stop rest);
      begins = s.begins;
      within = s.within;
      end = f;
    }

-- and no other term is in front
pub next_reach : (finished : Bool) (bytes : List ℕ) (t : TermValue) (taken : ℕ) → IsNext finished bytes t taken
    → (rest : List ℕ) × (reach no_progress bytes ≡ stopped_at t taken rest) × (ends finished rest ≡ Some true)
next_reach finished bytes t taken n =
    let is = sentence_run t bytes n.rest n.sentence in
    let front = n.begins.skips.0 in
    let parted : length bytes ≡ length front + length n.at = ap length n.begins.skips.2 ∙ length-append front n.at in
    let there : length bytes ≡ is.0 + length n.rest = is.1 in
    let taken_there : length bytes ≡ taken + length n.rest = n.there in
    let within : length n.at ≤ length n.rest + longest = n.within in
    let same : is.0 ≡ taken = omega arith in (
      n.rest,
      begun_limited bytes n.at (length front) n.begins parted
          ∙ ap (λ r. by_limit (length front) r (length bytes)) (is.2 ∙ ap (λ k. at_stop t k n.rest) same)
          ∙ if_le taken (length front + longest) _ _ (omega arith),
      n.end,
    )

pub none_next : (finished : Bool) (bytes : List ℕ)
    → ((t : TermValue) (last : ℕ) (rest : List ℕ) → reach no_progress bytes ≡ stopped_at t last rest → ends finished rest ≡ Some true → ⊥)
    → HasNone finished bytes
none_next finished bytes h t taken n = let is = next_reach finished bytes t taken n in h t taken is.0 is.1 is.2
