-- What the bytes of a stream of printed terms mean is steady.
use Rattle.std.proofs.Common.{◌≡◌, ◌≢◌, ℕ, ◌+◌, Bool, true, false, cond, List, [], ◌∷◌, ◌++◌, drop, map, refl, ap, sym, ◌∙◌, subst, inl, inr}
use Rattle.std.proofs.Common.{append-nil, add_assoc}
use Rattle.feed_model.specs.Meaning.{goes_on, ends, breaks, InFront, a_term, no_term}
use Rattle.feed_model.specs.Steady.{Steady}
use Rattle.feed_model.specs.Stream.{IsStream}
use Rattle.text_model.specs.declared.fault.TextFault.{TextFault}
use Rattle.text_model.specs.declared.fault.TextFault.TheVariants.{Syntax, Memory}
use Rattle.text_model.specs.Script.{Rest, blank, may_go_on, fault, Answer, a_term as a_sentence, no_term as no_sentence, IsAnswer, moved, Placed, IsScript}
use Rattle.text_model.specs.Progress.{answer_of}
use Rattle.text_model.specs.TextFeed.{stands, texts, behind_of}
use Rattle.text_model.proofs.Answering.{answer_is, answer_only}
use Rattle.text_model.proofs.Scripts.{term_stays, fault_stays}
use Rattle.text_model.proofs.TermLengths.{term_some, term_within}

-- ---- one thing stands in front: the one that the answer to the bytes tells

abbrev seen : Bool → ℕ → Answer → InFront TextFault
seen finished start (a_sentence t count) = a_term t count
seen finished start (no_sentence blank) = no_term (cond finished ends goes_on)
seen finished start (no_sentence may_go_on) = no_term goes_on
seen finished start (no_sentence (fault at why)) = no_term (breaks (Syntax (start + at) why))

seen_by : (finished other : Bool) (start : ℕ) (bytes : List ℕ) (answer : Answer) → finished ≡ other → IsAnswer other bytes answer
    → seen finished start (answer_of finished bytes) ≡ seen other start answer
seen_by finished other start bytes answer f is =
    ap (λ b. seen b start (answer_of b bytes)) f ∙ ap (seen other start) (sym (answer_only other bytes answer is))

settled : (finished : Bool) (start : ℕ) (bytes : List ℕ) (x : InFront TextFault) → stands finished start bytes x
    → seen finished start (answer_of finished bytes) ≡ x
settled finished start bytes (a_term t count) is = seen_by finished finished start bytes (a_sentence t count) refl is
settled finished start bytes (no_term goes_on) (f, inl is) = seen_by finished false start bytes (no_sentence blank) f is
settled finished start bytes (no_term goes_on) (f, inr is) = seen_by finished false start bytes (no_sentence may_go_on) f is
settled finished start bytes (no_term ends) (f, is) = seen_by finished true start bytes (no_sentence blank) f is
settled finished start bytes (no_term (breaks (Syntax at why))) (offset, there, is) =
    seen_by finished finished start bytes (no_sentence (fault offset why)) refl is ∙ ap (λ o. no_term (breaks (Syntax o why))) (sym there)
settled finished start bytes (no_term (breaks Memory)) h = absurd h

-- ---- something does

something : (finished : Bool) (start : ℕ) (bytes : List ℕ) (answer : Answer) → IsAnswer finished bytes answer
    → (x : InFront TextFault) × stands finished start bytes x
something finished start bytes (a_sentence t count) is = (a_term t count, is)
something true start bytes (no_sentence blank) is = (no_term ends, (refl, is))
something false start bytes (no_sentence blank) is = (no_term goes_on, (refl, inl is))
something true start bytes (no_sentence may_go_on) is = let clash : true ≡ false = is.1.0 in cc
something false start bytes (no_sentence may_go_on) is = (no_term goes_on, (refl, inr is))
something finished start bytes (no_sentence (fault at why)) is = (no_term (breaks (Syntax (start + at) why)), (at, refl, is))

-- ---- it stays

-- what stays with more bytes stays with all that follow, which are none where the input is finished
stays_on : (finished then : Bool) (bytes more : List ℕ) (answer : Answer) → (finished ≡ true → (then ≡ true) × (more ≡ []))
    → (IsAnswer false bytes answer → IsAnswer then (bytes ++ more) answer) → IsAnswer finished bytes answer → IsAnswer then (bytes ++ more) answer
stays_on true then bytes more answer last on is =
    subst (λ b. IsAnswer b (bytes ++ more) answer) (sym (last refl).0)
    (subst (λ l. IsAnswer true l answer) (sym (append-nil bytes) ∙ ap (λ l. bytes ++ l) (sym (last refl).1)) is)
stays_on false then bytes more answer last on is = on is

stays : (finished then : Bool) (start : ℕ) (bytes more : List ℕ) (x : InFront TextFault) → x ≢ no_term goes_on
    → (finished ≡ true → (then ≡ true) × (more ≡ [])) → stands finished start bytes x → stands then start (bytes ++ more) x
stays finished then start bytes more (a_term t count) other last is =
    stays_on finished then bytes more (a_sentence t count) last (term_stays then bytes more t count) is
stays finished then start bytes more (no_term goes_on) other last h = absurd (other refl)
stays finished then start bytes more (no_term ends) other last (f, is) =
    ((last f).0, subst (λ l. IsAnswer true l (no_sentence blank)) (sym (append-nil bytes) ∙ ap (λ l. bytes ++ l) (sym (last f).1)) is)
stays finished then start bytes more (no_term (breaks (Syntax at why))) other last (offset, there, is) =
    (offset, there, stays_on finished then bytes more (no_sentence (fault offset why)) last (fault_stays then bytes more offset why) is)
stays finished then start bytes more (no_term (breaks Memory)) other last h = absurd h

pub steady-texts : Steady texts
steady-texts = record {
  one = λ finished start bytes x y h k. sym (settled finished start bytes x h) ∙ settled finished start bytes y k;
  some = λ finished start bytes. something finished start bytes (answer_of finished bytes) (answer_is finished bytes);
  stays = stays;
  within = λ finished start bytes t count is. (term_some finished bytes t count is, term_within finished bytes t count is);
  closed = λ start bytes h. let clash = h.0 in cc;
  open_end = λ start bytes h. let clash = h.0 in cc;
  no_memory = λ finished start bytes h. h;
}

-- ---- a stream gives the terms of its script

rest_stands : (finished : Bool) (start : ℕ) (bytes : List ℕ) (rest : Rest) → IsAnswer finished bytes (no_sentence rest)
    → stands finished start bytes (no_term (behind_of finished start rest))
rest_stands true start bytes blank is = (refl, is)
rest_stands false start bytes blank is = (refl, inl is)
rest_stands true start bytes may_go_on is = let clash : true ≡ false = is.1.0 in cc
rest_stands false start bytes may_go_on is = (refl, inr is)
rest_stands finished start bytes (fault at why) is = (at, refl, is)

moved_behind : (finished : Bool) (start count : ℕ) (rest : Rest) → behind_of finished (start + count) rest ≡ behind_of finished start (moved count rest)
moved_behind finished start count blank = refl
moved_behind finished start count may_go_on = refl
moved_behind finished start count (fault at why) = ap (λ o. breaks (Syntax o why)) (add_assoc start count at)

pub script_stream : (finished : Bool) (start : ℕ) (bytes : List ℕ) (placed : List Placed) (rest : Rest) → IsScript finished bytes placed rest
    → IsStream texts finished start bytes (map (λ p. p.term) placed) (behind_of finished start rest)
script_stream finished start bytes [] rest is = rest_stands finished start bytes rest is
script_stream finished start bytes (first ∷ others) rest (here, (behind, e, is)) =
    let terms = map (λ (p : Placed). p.term) others in (
      first.bytes,
      here,
      subst (IsStream texts finished (start + first.bytes) (drop first.bytes bytes) terms)
          (moved_behind finished start first.bytes behind ∙ ap (behind_of finished start) (sym e))
          (script_stream finished (start + first.bytes) (drop first.bytes bytes) others behind is),
    )
