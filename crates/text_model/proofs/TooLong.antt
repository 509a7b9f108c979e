-- A text is too long where the machine says so, and there alone.
use Rattle.std.proofs.Common.{◌≡◌, ℕ, ◌+◌, ◌-◌, ◌<◌, ◌≤◌, List, [], ◌∷◌, ◌++◌, length, length-append, take, drop, ⊎_elim, refl, ap, ◌∙◌, sym, subst}
use Rattle.std.proofs.Common.{append_assoc, arith}
use Rattle.std.proofs.Math.Seq.{take-append-add}
use Rattle.std.proofs.lemmas.Bool.{cases_lt}
use Rattle.std.proofs.lemmas.List.{take-append-drop, length-take-le}
use Rattle.dets_term.specs.TermValue.{TermValue}
use Rattle.text_model.specs.declared.fault.TextWhy.{TextWhy}
use Rattle.text_model.specs.declared.fault.TextWhy.TheVariants.{TooLong}
use Rattle.text_model.specs.Sentence.{IsSentence, BeginsAt, longest}
use Rattle.text_model.specs.Faults.{Breaks, IsTooLong}
use Rattle.text_model.specs.Reader.{State, fresh_state}
use Rattle.text_model.specs.Progress.{failing as failed, no_progress, reach}
use Rattle.text_model.proofs.Runs.{Run, going, at_stop, failing, run, going_on, run_more}
use Rattle.text_model.proofs.RunsCome.{Stops, Faults, Tells}
use Rattle.text_model.proofs.RowsBreak.{row_breaks, stop_sentence}
use Rattle.text_model.proofs.Limited.{by_limit, if_le, if_gt}
use Rattle.text_model.proofs.BegunTexts.{tells, begun_limited}
use Rattle.text_model.proofs.Liveness.{live}
use Rattle.text_model.proofs.WellRead.{sentence_run}

-- a run whose end is not among so many bytes
abbrev pub IsPast : ℕ → Run → ℕ → Type 0
IsPast n (going s) end = n ≤ end
IsPast n (at_stop t at rest) end = n < at
IsPast n (failing at o why) end = n ≤ at

past_cut : (o end : ℕ) (r : Run) → IsPast (o + longest) r end → by_limit o r end ≡ failed o TooLong
past_cut o end (going s) h = if_le (o + longest) end _ _ h
past_cut o end (at_stop t at rest) h = if_gt at (o + longest) _ _ h
past_cut o end (failing at f why) h = if_le (o + longest) at _ _ h

-- ---- from the machine

stop_within : (p : List ℕ) (t : TermValue) (at : ℕ) (rest : List ℕ) → Stops p t at rest → at ≤ length p
stop_within p t at rest s =
    let there : at ≡ length s.front = s.there in omega (arith, ap length s.whole, length-append s.front rest)

fault_within : (p : List ℕ) (at o : ℕ) (why : TextWhy) → Faults p at o why → at < length p
fault_within p at o why f =
    let there : at ≡ length f.front = f.there in omega (arith, ap length f.whole, length-append f.front (f.byte ∷ f.rest))

past_within : (bytes : List ℕ) (n : ℕ) (r : Run) → Tells bytes r → IsPast n r (length bytes) → n ≤ length bytes
past_within bytes n (going s) t h = h
past_within bytes n (at_stop t at rest) s h = let few = stop_within bytes t at rest s in omega arith
past_within bytes n (failing at o why) f h = let few = fault_within bytes at o why f in omega arith

going_front : (front : List ℕ) (n : ℕ) (more : List ℕ) (end : ℕ) (r : Run) → length front ≤ n → Tells front r → IsPast n (going_on r (length front) more) end
    → (s : State) × (r ≡ going s)
going_front front n more end (going s) few t h = (s, refl)
going_front front n more end (at_stop t at rest) few s h = let within = stop_within front t at rest s in absurd (omega arith)
going_front front n more end (failing at o why) few f h = let within = fault_within front at o why f in absurd (omega arith)

-- as many bytes as the limit allows go on
front_goes : (bytes : List ℕ) (n : ℕ) → n ≤ length bytes → IsPast n (run fresh_state 0 bytes) (length bytes)
    → (s : State) × (run fresh_state 0 (take n bytes) ≡ going s)
front_goes bytes n within h =
    let front = take n bytes in
    let more = drop n bytes in
    let whole : run fresh_state 0 bytes ≡ going_on (run fresh_state 0 front) (length front) more =
    ap (run fresh_state 0) (sym (take-append-drop n bytes)) ∙ sym (run_more fresh_state 0 front more)
    ∙ ap (λ o. going_on (run fresh_state 0 front) o more) (let k : 0 + length front ≡ length front = omega arith in k) in
    going_front front n more (length bytes) (run fresh_state 0 front) (let k : length front ≤ n = omega (arith, length-take-le n bytes within) in k)
    (tells front (run fresh_state 0 front) refl) (subst (λ r. IsPast n r (length bytes)) whole h)

going_stops : (s : State) (t : TermValue) (at : ℕ) (rest : List ℕ) → going s ≡ at_stop t at rest → ⊥
going_stops s t at rest e = cc

pub too_long_is : (bytes at : List ℕ) (o : ℕ) → BeginsAt bytes at → length bytes ≡ o + length at
    → IsPast (o + longest) (run fresh_state 0 bytes) (length bytes) → IsTooLong bytes o
too_long_is bytes at o b there h =
    let within : o + longest ≤ length bytes = past_within bytes (o + longest) (run fresh_state 0 bytes) (tells bytes (run fresh_state 0 bytes) refl) h in
    let goes = front_goes bytes (o + longest) within h in
    record {
      at = at;
      begins = b;
      there = there;
      long = omega arith;
      no_stop = λ t rest s.
          let is = sentence_run t (take (o + longest) bytes) rest s in going_stops goes.0 t is.0 rest (sym goes.1 ∙ is.2);
      no_fault = λ f why all.
          live (take (o + longest) bytes) goes.0 f why (tells (take (o + longest) bytes) (going goes.0) goes.1) goes.1 all;
    }

-- ---- and back

-- a front of so many bytes that has a shorter one
front_longer : (bytes front rest : List ℕ) (n : ℕ) → bytes ≡ front ++ rest → length front ≤ n → take n bytes ≡ front ++ take (n - length front) rest
front_longer bytes front rest n e few =
    let size : n ≡ length front + (n - length front) = omega arith in
    ap (take n) e ∙ ap (λ k. take k (front ++ rest)) size ∙ take-append-add front rest (n - length front)

stop_past : (bytes : List ℕ) (n : ℕ) (t : TermValue) (at : ℕ) (rest : List ℕ) → Stops bytes t at rest
    → ((u : TermValue) (behind : List ℕ) → IsSentence u (take n bytes) behind → ⊥) → n < at
stop_past bytes n t at rest s no_stop = ⊎_elim
    (λ (past : n < at). past)
    (λ (few : at ≤ n).
    let there : at ≡ length s.front = s.there in
    let behind = take (n - length s.front) rest in
    absurd (no_stop t behind (subst (λ l. IsSentence t l behind) (sym (front_longer bytes s.front rest n s.whole (omega arith)))
    (stop_sentence s.front s.state.nest s.state.lexeme t s.comes s.stop behind))))
    (cases_lt n at)

pub fault_breaks : (bytes : List ℕ) (at o : ℕ) (why : TextWhy) → Faults bytes at o why → Breaks bytes o why
fault_breaks bytes at o why f =
    subst (λ l. Breaks l o why) (append_assoc f.front (f.byte ∷ []) f.rest ∙ sym f.whole) (row_breaks (f.front ++ f.byte ∷ []) o why f.row f.rest)

fault_past : (bytes : List ℕ) (n at o : ℕ) (why : TextWhy) → Faults bytes at o why
    → ((u : ℕ) (w : TextWhy) → ((more : List ℕ) → Breaks (take n bytes ++ more) u w) → ⊥) → n ≤ at
fault_past bytes n at o why f no_fault = ⊎_elim
    (λ (few : at < n).
    let there : at ≡ length f.front = f.there in
    let front = f.front ++ f.byte ∷ [] in
    let one : length front ≡ length f.front + 1 = length-append f.front (f.byte ∷ []) in
    let behind = take (n - length front) f.rest in
    let parted : take n bytes ≡ front ++ behind =
    front_longer bytes front f.rest n (f.whole ∙ sym (append_assoc f.front (f.byte ∷ []) f.rest)) (omega arith) in
    absurd (no_fault o why (λ more.
    subst (λ l. Breaks l o why) (sym (append_assoc front behind more) ∙ ap (λ l. l ++ more) (sym parted)) (row_breaks front o why f.row (behind ++ more)))))
    (λ (past : n ≤ at). past)
    (cases_lt at n)

long_past : (bytes : List ℕ) (o : ℕ) (r : Run) → Tells bytes r → IsTooLong bytes o → IsPast (o + longest) r (length bytes)
long_past bytes o (going s) g l =
    let there : length bytes ≡ o + length l.at = l.there in let long : longest ≤ length l.at = l.long in omega arith
long_past bytes o (at_stop t at rest) s l = stop_past bytes (o + longest) t at rest s l.no_stop
long_past bytes o (failing at f why) g l = fault_past bytes (o + longest) at f why g l.no_fault

pub too_long_reach : (bytes : List ℕ) (o : ℕ) → IsTooLong bytes o → reach no_progress bytes ≡ failed o TooLong
too_long_reach bytes o l =
    begun_limited bytes l.at o l.begins l.there
    ∙ past_cut o (length bytes) (run fresh_state 0 bytes) (long_past bytes o (run fresh_state 0 bytes) (tells bytes (run fresh_state 0 bytes) refl) l)
