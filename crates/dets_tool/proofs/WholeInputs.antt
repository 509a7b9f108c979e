-- An input whose terms are all answered is served to its end.
use Rattle.std.proofs.Common.{◌≡◌, ℕ, Bool, true, List, [], ◌∷◌, ◌++◌, length, length-append, Option, Some, None}
use Rattle.std.proofs.Common.{refl, ap, ◌∙◌, sym, subst, append-nil, arith}
use Rattle.std.specs.Option.{option_map_or}
use Rattle.dets_term.specs.TermValue.{TermValue}
use Rattle.feed_model.specs.Meaning.{ends, breaks, a_term, Meaning}
use Rattle.feed_model.specs.Stream.{IsStream}
use Rattle.feed_model.specs.Steady.{Steady}
use Rattle.feed_model.specs.OneAnswer.{one_list}
use Rattle.feed_model.specs.Growth.{first_stay, stream_stays}
use Rattle.run_model.specs.History.{answers}
use Rattle.host_model.specs.Source.{Stream}
use Rattle.dets_tool.specs.declared.status.InputWhy.TheVariants.{TooMuch, Text, Etf}
use Rattle.dets_tool.specs.declared.status.Status.{Status}
use Rattle.dets_tool.specs.declared.status.Status.TheVariants.{Done, Input, WordsRefused, Disk, SourceFault, Output, Memory, File, NotYet}
use Rattle.dets_tool.specs.Service.{Service}
use Rattle.dets_tool.specs.Run.{Ran, IsServed, IsWhole, IsNotBuilt}

-- where each term of a list is answered, each of a front of it is
answered_front : {S : Type 0} (step : S → TermValue → Option (TermValue × S)) (state : S) (xs ys : List TermValue)
    → length (answers step state (xs ++ ys)) ≡ length (xs ++ ys) → length (answers step state xs) ≡ length xs
answered_front step state [] ys e = refl
answered_front {S} step state (x ∷ xs) ys e = by_step (λ after. answered_front step after xs ys) (step state x) e
  where
    by_step : ((after : S) → length (answers step after (xs ++ ys)) ≡ length (xs ++ ys) → length (answers step after xs) ≡ length xs)
        → (o : Option (TermValue × S))
        → length (option_map_or (λ (served : TermValue × S). served.0 ∷ answers step served.1 (xs ++ ys)) o []) ≡ length (x ∷ (xs ++ ys))
        → length (option_map_or (λ (served : TermValue × S). served.0 ∷ answers step served.1 xs) o []) ≡ length (x ∷ xs)
    by_step others None e = absurd (omega (arith, e))
    by_step others (Some (answer, after)) e = let on = others after (omega (arith, e)) in omega (arith, on)

module _ {F S : Type 0} (m : Meaning F) (steady : Steady m) (told : F → ℕ → Status) (service : Service S) (input : List ℕ) (whole : IsWhole m service input)
    (status : Status) (after : Option Stream) (said now : Option (List ℕ)) (r : Ran m told service status input after said now) where
  -- the bytes that were taken, where no byte past the budget was, and those that are left
  parts : r.outcome.past ≡ [] → r.outcome.bytes ++ r.outcome.left ≡ input
  parts none = sym (r.taken ∙ ap (λ l. r.outcome.bytes ++ (l ++ r.outcome.left)) none)

  -- a run that was ended has all of them
  last : (ended : Bool) → r.outcome.ended ≡ ended → ended ≡ true → (true ≡ true) × (r.outcome.left ≡ [])
  last ended e f = (refl, r.at_end (e ∙ f))

  all_given : r.outcome.past ≡ [] → IsStream m true 0 (r.outcome.bytes ++ r.outcome.left) whole.terms ends
  all_given none = subst (λ l. IsStream m true 0 l whole.terms ends) (sym (parts none)) whole.stream

  -- no rule is broken
  never_breaks : (fault : F) → r.outcome.past ≡ [] → r.outcome.behind ≡ breaks fault → ⊥
  never_breaks fault none b =
      let stream = subst (λ x. IsStream m r.outcome.ended 0 r.outcome.bytes r.outcome.terms x) b r.stream in
      let on = stream_stays m steady r.outcome.ended true r.outcome.left (last r.outcome.ended refl) 0 r.outcome.bytes r.outcome.terms (breaks fault)
      (λ e. cc) stream in
      let one = one_list m steady true 0 (r.outcome.bytes ++ r.outcome.left) r.outcome.terms whole.terms (breaks fault) ends on (all_given none) in
      let clash = one.1 in cc

  -- no term is without an answer
  never_lacks : (answered : ℕ) → r.outcome.past ≡ [] → IsNotBuilt service answered r.outcome → ⊥
  never_lacks answered none b =
      let stays = λ (start : ℕ) (bytes : List ℕ) (t : TermValue) (count : ℕ) (h : m.Stands r.outcome.ended start bytes (a_term t count)).
      steady.stays r.outcome.ended true start bytes r.outcome.left (a_term t count) (λ e. cc) (last r.outcome.ended refl) h in
      let first = first_stay m steady r.outcome.ended true r.outcome.left stays 0 r.outcome.bytes r.outcome.terms [] whole.terms
      r.outcome.behind ends (subst (λ ts. IsStream m r.outcome.ended 0 r.outcome.bytes ts r.outcome.behind) (sym (append-nil r.outcome.terms)) r.stream)
      (all_given none) in
      let all = answered_front service.step service.first r.outcome.terms first.0
      (ap (λ l. length (answers service.step service.first l)) (sym first.1) ∙ whole.all ∙ ap length first.1) in
      absurd (omega (arith, b.next, b.answered_to, all))

pub whole_is_served : {F S : Type 0} (m : Meaning F) → Steady m → (told : F → ℕ → Status) (service : Service S) (input : List ℕ) → IsWhole m service input
    → (status : Status) (after : Option Stream) (said now : Option (List ℕ)) → Ran m told service status input after said now → IsServed status
whole_is_served m steady told service input whole Done after said now r = tt
whole_is_served m steady told service input whole SourceFault after said now r = tt
whole_is_served m steady told service input whole Output after said now r = tt
whole_is_served m steady told service input whole Memory after said now r = tt
whole_is_served m steady told service input whole WordsRefused after said now r = r.end
whole_is_served m steady told service input whole Disk after said now r = r.end
whole_is_served m steady told service input whole (File why) after said now r = r.end
whole_is_served m steady told service input whole (Input offset TooMuch) after said now r =
    absurd (omega (
      arith,
      whole.within,
      r.budget r.end.1,
      r.end.1,
      ap length r.taken,
      length-append r.outcome.bytes (r.outcome.past ++ r.outcome.left),
      length-append r.outcome.past r.outcome.left,
    ))
whole_is_served m steady told service input whole (Input offset (Text why)) after said now r =
    never_breaks m steady told service input whole (Input offset (Text why)) after said now r r.end.1 r.end.0 r.end.3.broken
whole_is_served m steady told service input whole (Input offset (Etf why)) after said now r =
    never_breaks m steady told service input whole (Input offset (Etf why)) after said now r r.end.1 r.end.0 r.end.3.broken
whole_is_served m steady told service input whole (NotYet answered) after said now r =
    never_lacks m steady told service input whole (NotYet answered) after said now r answered r.end.0 r.end.1
