-- What a run comes to, by where it ends.
use Rattle.std.proofs.Common.{◌≡◌, ℕ, ◌+◌, ◌<◌, ◌≤◌, ◌^◌, Bool, true, false, List, [], ◌∷◌, ◌++◌, length, length-append, take, drop, flat_map}
use Rattle.std.proofs.Common.{Option, Some, None, option_map, refl, ap, ◌∙◌, sym, subst, append_assoc, append-nil, arith}
use Rattle.std.proofs.lemmas.List.{take-append-drop}
use Rattle.std.specs.Option.{option_map_or}
use Rattle.dets_term.specs.TermValue.{TermValue}
use Rattle.feed_model.specs.Meaning.{Behind, goes_on, ends, breaks, a_term, no_term, Meaning}
use Rattle.feed_model.specs.Stream.{IsStream}
use Rattle.feed_model.specs.Steady.{Steady}
use Rattle.feed_model.specs.OneAnswer.{a_stream}
use Rattle.run_model.specs.History.{answers}
use Rattle.host_model.specs.Source.{Stream}
use Rattle.host_model.specs.Host.{SaysFront}
use Rattle.dets_tool.specs.declared.status.Status.{Status}
use Rattle.dets_tool.specs.declared.status.Status.TheVariants.{Done, Input, WordsRefused, Disk, SourceFault, Output, Memory, File, NotYet}
use Rattle.dets_tool.specs.declared.status.InputWhy.TheVariants.{TooMuch, Text, Etf}
use Rattle.dets_tool.specs.Service.{Service}
use Rattle.dets_tool.specs.Status.{IsRefusal}
use Rattle.dets_tool.specs.Run.{Outcome, answers_of, HasWrittenAll, GoesOn, BreaksRule, IsEndOf, Ran}
use Rattle.dets_tool.specs.Serving.{Standing, Serves, IsUnserved, Stops, at_term, at_fault, at_memory, Breaks}
use Rattle.dets_tool.proofs.Serving.{said_nothing, said_both, lines-append}

-- what was taken of the input: these bytes, those of a read past the budget, and what is left
pub record Took (finished : Bool) (bytes past left input : List ℕ) : Type 0 where
  pub taken : input ≡ bytes ++ (past ++ left)
  pub within : length bytes ≤ 2 ^ 32
  pub budget : 0 < length past → length bytes ≡ 2 ^ 32
  pub at_end : finished ≡ true → left ≡ []

none_past : {P : Type 0} → 0 < length {A = ℕ} [] → P
none_past h = absurd (omega (arith, h))

-- while more may come, and at the end
pub took : (bytes left input : List ℕ) → input ≡ bytes ++ left → length bytes ≤ 2 ^ 32 → Took false bytes [] left input
took bytes left input t h = record { taken = t; within = h; budget = none_past; at_end = λ e. cc }

pub took_all : (bytes input : List ℕ) → input ≡ bytes → length bytes ≤ 2 ^ 32 → Took true bytes [] [] input
took_all bytes input t h = record { taken = t ∙ sym (append-nil bytes); within = h; budget = none_past; at_end = λ _. refl }

-- a run that has taken these bytes, and answered no term yet
abbrev pub taken : {S : Type 0} → Service S → List ℕ → Option (List ℕ) → Standing S
taken service bytes said = record { left = bytes; offset = 0; state = service.first; answered = 0; said = said }

module _ {F S : Type 0} (m : Meaning F) (told : F → ℕ → Status) (service : Service S) where
  -- where a run ends: the bytes, what it served of them, what is left of them gives, and the part of a line that was written
  record End_of (finished : Bool) (bytes : List ℕ) (said : Option (List ℕ)) : Type 0 where
    here : Standing S
    served : Serves m service finished (taken service bytes said) here
    terms : List TermValue
    behind : Behind F
    stream : IsStream m finished here.offset here.left terms behind
    part : List ℕ

  abbrev outcome : (finished : Bool) (bytes : List ℕ) (said : Option (List ℕ)) → End_of finished bytes said → List ℕ → List ℕ → Outcome F
  outcome finished bytes said e past left = record {
    bytes = bytes;
    past = past;
    left = left;
    ended = finished;
    terms = e.served.terms ++ e.terms;
    behind = e.behind;
    written = flat_map service.line e.served.given ++ e.part;
  }

  -- the answers to all terms: those that were given, and those to what is left
  answers_there : (finished : Bool) (bytes : List ℕ) (said : Option (List ℕ)) (e : End_of finished bytes said) (past left : List ℕ)
      → answers_of service (outcome finished bytes said e past left) ≡ e.served.given ++ answers service.step e.here.state e.terms
  answers_there finished bytes said e past left = e.served.served e.terms

  made : (status : Status) (finished : Bool) (bytes past left input : List ℕ) (said now : Option (List ℕ)) (e : End_of finished bytes said) (more : List ℕ)
      → flat_map service.line (answers service.step e.here.state e.terms) ≡ e.part ++ more
      → now ≡ option_map (λ (output : List ℕ). output ++ e.part) e.here.said → Took finished bytes past left input
      → IsEndOf service told status (outcome finished bytes said e past left)
      → Ran m told service status input (Some (record { left = left; ended = finished })) said now
  made status finished bytes past left input said now e more h o t end = record {
    outcome = outcome finished bytes said e past left;
    source = refl;
    taken = t.taken;
    within = t.within;
    budget = t.budget;
    at_end = t.at_end;
    stream =
        subst (λ l. IsStream m finished 0 l (e.served.terms ++ e.terms) e.behind) (append-nil bytes)
        (e.served.stream finished [] e.terms e.behind (λ f. (f, refl))
        (subst (λ l. IsStream m finished e.here.offset l e.terms e.behind) (sym (append-nil e.here.left)) e.stream));
    output = o ∙ ap (option_map (λ (output : List ℕ). output ++ e.part)) e.served.said ∙ said_both said (flat_map service.line e.served.given) e.part;
    prefix = (
      more,
      append_assoc (flat_map service.line e.served.given) e.part more ∙ ap (λ l. flat_map service.line e.served.given ++ l) (sym h)
          ∙ sym (lines-append service.line e.served.given (answers service.step e.here.state e.terms))
          ∙ ap (flat_map service.line) (sym (answers_there finished bytes said e past left)),
    );
    end = end;
  }

  -- ---- where no answer is left

  no_more_answers : (finished : Bool) (bytes : List ℕ) (said : Option (List ℕ)) (e : End_of finished bytes said) (past left : List ℕ)
      → answers service.step e.here.state e.terms ≡ [] → answers_of service (outcome finished bytes said e past left) ≡ e.served.given
  no_more_answers finished bytes said e past left r =
      answers_there finished bytes said e past left ∙ ap (λ l. e.served.given ++ l) r ∙ append-nil e.served.given

  -- all was written, where what is left has no answer
  all_written : (finished : Bool) (bytes : List ℕ) (said : Option (List ℕ)) (e : End_of finished bytes said) (past left : List ℕ) → e.part ≡ []
      → answers service.step e.here.state e.terms ≡ [] → HasWrittenAll service (outcome finished bytes said e past left)
  all_written finished bytes said e past left p r =
      ap (λ l. flat_map service.line e.served.given ++ l) p ∙ append-nil (flat_map service.line e.served.given)
      ∙ ap (flat_map service.line) (sym (no_more_answers finished bytes said e past left r))

  answers_count : (finished : Bool) (bytes : List ℕ) (said : Option (List ℕ)) (e : End_of finished bytes said) (past left : List ℕ)
      → answers service.step e.here.state e.terms ≡ [] → length (answers_of service (outcome finished bytes said e past left)) ≡ length e.served.terms
  answers_count finished bytes said e past left r = ap length (no_more_answers finished bytes said e past left r) ∙ e.served.all

  terms_count : (finished : Bool) (bytes : List ℕ) (said : Option (List ℕ)) (e : End_of finished bytes said) (past left : List ℕ)
      → length ((outcome finished bytes said e past left).terms) ≡ length e.served.terms + length e.terms
  terms_count finished bytes said e past left = length-append e.served.terms e.terms

  -- the end where no term stands in front of what is left
  abbrev no_more : (finished : Bool) (bytes : List ℕ) (said : Option (List ℕ)) (here : Standing S) → Serves m service finished (taken service bytes said) here
      → (behind : Behind F) → m.Stands finished here.offset here.left (no_term behind) → End_of finished bytes said
  no_more finished bytes said here s behind stands =
      record { here = here; served = s; terms = []; behind = behind; stream = stands; part = [] }

  all_answered : (finished : Bool) (bytes : List ℕ) (said : Option (List ℕ)) (here : Standing S)
      (s : Serves m service finished (taken service bytes said) here) (behind : Behind F) (stands : m.Stands finished here.offset here.left (no_term behind))
      (past left : List ℕ) → length (answers_of service (outcome finished bytes said (no_more finished bytes said here s behind stands) past left))
      ≡ length ((outcome finished bytes said (no_more finished bytes said here s behind stands) past left).terms)
  all_answered finished bytes said here s behind stands past left =
      let e = no_more finished bytes said here s behind stands in
      omega (arith, answers_count finished bytes said e past left refl, terms_count finished bytes said e past left)

  goes_on_so : (bytes : List ℕ) (said : Option (List ℕ)) (here : Standing S) (s : Serves m service false (taken service bytes said) here)
      (stands : m.Stands false here.offset here.left (no_term goes_on)) (past left : List ℕ)
      → GoesOn service (outcome false bytes said (no_more false bytes said here s goes_on stands) past left)
  goes_on_so bytes said here s stands past left = record {
    written = all_written false bytes said (no_more false bytes said here s goes_on stands) past left refl refl;
    all = all_answered false bytes said here s goes_on stands past left;
    open_end = refl;
    unbroken = refl;
  }

  pub ran_source_fault : (bytes left input : List ℕ) (said : Option (List ℕ)) (here : Standing S) → Serves m service false (taken service bytes said) here
      → m.Stands false here.offset here.left (no_term goes_on) → Took false bytes [] left input
      → Ran m told service SourceFault input (Some (record { left = left; ended = false })) said here.said
  ran_source_fault bytes left input said here s w t =
      made SourceFault false bytes [] left input said here.said (no_more false bytes said here s goes_on w) [] refl (said_nothing here.said) t
      (refl, goes_on_so bytes said here s w [] left)

  pub ran_too_much : (bytes past left input : List ℕ) (said : Option (List ℕ)) (here : Standing S) → Serves m service false (taken service bytes said) here
      → m.Stands false here.offset here.left (no_term goes_on) → Took false bytes past left input → 0 < length past
      → Ran m told service (Input (2 ^ 32) TooMuch) input (Some (record { left = left; ended = false })) said here.said
  ran_too_much bytes past left input said here s w t p =
      made (Input (2 ^ 32) TooMuch) false bytes past left input said here.said (no_more false bytes said here s goes_on w) [] refl (said_nothing here.said) t
      (refl, p, goes_on_so bytes said here s w past left)

  pub ran_done : (bytes input : List ℕ) (said : Option (List ℕ)) (here : Standing S) → Serves m service true (taken service bytes said) here
      → m.Stands true here.offset here.left (no_term ends) → Took true bytes [] [] input
      → Ran m told service Done input (Some (record { left = []; ended = true })) said here.said
  ran_done bytes input said here s w t =
      made Done true bytes [] [] input said here.said (no_more true bytes said here s ends w) [] refl (said_nothing here.said) t (
        refl,
        record {
          written = all_written true bytes said (no_more true bytes said here s ends w) [] [] refl refl;
          all = all_answered true bytes said here s ends w [] [];
          ended = refl;
          at_end = refl;
        },
      )

  -- ---- where a run breaks

  module _ (steady : Steady m) where
    -- what is left, where a term stands in front
    stream_from : (finished : Bool) (start : ℕ) (left : List ℕ) (t : TermValue) (count : ℕ) → m.Stands finished start left (a_term t count)
        → (ts : List TermValue) × (behind : Behind F) × IsStream m finished start left (t ∷ ts) behind
    stream_from finished start left t count here =
        let rest = a_stream m steady finished (start + count) (drop count left) in
        (rest.0, rest.1, (count, here, rest.2))

    first_answer : (state : S) (t : TermValue) (others : List TermValue) (answer : TermValue) (after : S) → service.step state t ≡ Some (answer, after)
        → answers service.step state (t ∷ others) ≡ answer ∷ answers service.step after others
    first_answer state t others answer after e =
        ap (λ o. option_map_or (λ (served : TermValue × S). served.0 ∷ answers service.step served.1 others) o []) e

    no_answer : (state : S) (t : TermValue) (others : List TermValue) → service.step state t ≡ None → answers service.step state (t ∷ others) ≡ []
    no_answer state t others e = ap (λ o. option_map_or (λ (served : TermValue × S). served.0 ∷ answers service.step served.1 others) o []) e

    -- the end where a term stands in front of what is left
    abbrev at_next : (finished : Bool) (bytes : List ℕ) (said : Option (List ℕ)) (here : Standing S)
        → Serves m service finished (taken service bytes said) here → (t : TermValue) (ts : List TermValue) (behind : Behind F)
        → IsStream m finished here.offset here.left (t ∷ ts) behind → (part : List ℕ) → End_of finished bytes said
    at_next finished bytes said here s t ts behind stream part =
        record { here = here; served = s; terms = t ∷ ts; behind = behind; stream = stream; part = part }

    ran_unserved : (status : Status) (finished : Bool) (bytes left input : List ℕ) (said now : Option (List ℕ)) (here : Standing S)
        → Serves m service finished (taken service bytes said) here → (t : TermValue) (count : ℕ)
        → m.Stands finished here.offset here.left (a_term t count) → IsUnserved service status here t now → Took finished bytes [] left input
        → Ran m told service status input (Some (record { left = left; ended = finished })) said now
    ran_unserved Done finished bytes left input said now here s t n next u i = absurd u
    ran_unserved (Input offset why) finished bytes left input said now here s t n next u i = absurd u
    ran_unserved WordsRefused finished bytes left input said now here s t n next u i = absurd u
    ran_unserved Disk finished bytes left input said now here s t n next u i = absurd u
    ran_unserved (File why) finished bytes left input said now here s t n next u i = absurd u
    ran_unserved SourceFault finished bytes left input said now here s t n next u i = absurd u
    ran_unserved Output finished bytes left input said now here s t n next u i =
        let a = stream_from finished here.offset here.left t n next in
        let line = service.line u.0 in
        let front : SaysFront line here.said now = u.1.2 in
        let part = take front.count line in
        let cut = drop front.count line in
        let others = flat_map service.line (answers service.step u.1.0 a.0) in
        made Output finished bytes [] left input said now (at_next finished bytes said here s t a.0 a.1 a.2 part) (cut ++ others)
        (ap (flat_map service.line) (first_answer here.state t a.0 u.0 u.1.0 u.1.1)
        ∙ ap (λ l. l ++ others) (sym (take-append-drop front.count line)) ∙ append_assoc part cut others)
        front.grown i refl
    ran_unserved Memory finished bytes left input said now here s t n next u i =
        let a = stream_from finished here.offset here.left t n next in
        made Memory finished bytes [] left input said now (at_next finished bytes said here s t a.0 a.1 a.2 [])
        (flat_map service.line (answers service.step here.state (t ∷ a.0))) refl (u ∙ said_nothing here.said) i tt
    ran_unserved (NotYet number) finished bytes left input said now here s t n next u i =
        let a = stream_from finished here.offset here.left t n next in
        let end = at_next finished bytes said here s t a.0 a.1 a.2 [] in
        let none : answers service.step here.state (t ∷ a.0) ≡ [] = no_answer here.state t a.0 u.1 in
        made (NotYet number) finished bytes [] left input said now end [] (ap (flat_map service.line) none) (u.2 ∙ said_nothing here.said) i (
          refl,
          record {
            written = all_written finished bytes said end [] left refl none;
            answered_to = omega (arith, u.0, s.answered, s.all, answers_count finished bytes said end [] left none);
            next = omega (arith, u.0, s.answered, s.all, terms_count finished bytes said end [] left);
          },
        )

    refused : (status : Status) (c : Outcome F) (fault : F) → told fault (length c.bytes) ≡ status → IsRefusal status → c.past ≡ []
        → BreaksRule service fault c → IsEndOf service told status c
    refused (Input offset TooMuch) c fault e r none b = absurd r
    refused (Input offset (Text why)) c fault e r none b = (none, fault, e, b)
    refused (Input offset (Etf why)) c fault e r none b = (none, fault, e, b)
    refused Memory c fault e r none b = tt
    refused Done c fault e r none b = absurd r
    refused WordsRefused c fault e r none b = absurd r
    refused Disk c fault e r none b = absurd r
    refused (File why) c fault e r none b = absurd r
    refused SourceFault c fault e r none b = absurd r
    refused Output c fault e r none b = absurd r
    refused (NotYet number) c fault e r none b = absurd r

    module _ (others : (fault : F) (fed : ℕ) → IsRefusal (told fault fed)) where
      ran_at_fault : (finished : Bool) (bytes left input : List ℕ) (said now : Option (List ℕ)) (here : Standing S)
          → Serves m service finished (taken service bytes said) here → (fault : F) → m.Stands finished here.offset here.left (no_term (breaks fault))
          → now ≡ here.said → Took finished bytes [] left input
          → Ran m told service (told fault (here.offset + length here.left)) input (Some (record { left = left; ended = finished })) said now
      ran_at_fault finished bytes left input said now here s fault a o i =
          let end = no_more finished bytes said here s (breaks fault) a in
          let fed : here.offset + length here.left ≡ length bytes = omega (arith, s.fed) in
          made (told fault (here.offset + length here.left)) finished bytes [] left input said now end [] refl (o ∙ said_nothing here.said) i
          (refused (told fault (here.offset + length here.left)) (outcome finished bytes said end [] left) fault (ap (told fault) (sym fed))
          (others fault (here.offset + length here.left)) refl (record {
            written = all_written finished bytes said end [] left refl refl;
            all = all_answered finished bytes said here s (breaks fault) a [] left;
            broken = refl;
          }))

      pub ran_memory : (finished : Bool) (bytes left input : List ℕ) (said now : Option (List ℕ)) (here : Standing S)
          → Serves m service finished (taken service bytes said) here
          → now ≡ here.said → Took finished bytes [] left input → Ran m told service Memory input (Some (record { left = left; ended = finished })) said now
      ran_memory finished bytes left input said now here s o i =
          let all = a_stream m steady finished here.offset here.left in
          made Memory finished bytes [] left input said now
          (record { here = here; served = s; terms = all.0; behind = all.1; stream = all.2; part = [] })
          (flat_map service.line (answers service.step here.state all.0)) refl (o ∙ said_nothing here.said) i tt

      pub ran_break : (status : Status) (finished : Bool) (bytes left input : List ℕ) (said now : Option (List ℕ))
          → Breaks m told service status finished (taken service bytes said) now → Took finished bytes [] left input
          → Ran m told service status input (Some (record { left = left; ended = finished })) said now
      ran_break status finished bytes left input said now b i = by_stop status b.stops
        where
          by_stop : (status : Status) → Stops m told service finished b.here now status
              → Ran m told service status input (Some (record { left = left; ended = finished })) said now
          by_stop status (at_term _ t n next u) = ran_unserved status finished bytes left input said now b.here b.served t n next u i
          by_stop _ (at_fault fault a o) = ran_at_fault finished bytes left input said now b.here b.served fault a o i
          by_stop _ (at_memory o) = ran_memory finished bytes left input said now b.here b.served o i

  -- a run that has no memory left at its end has done no more
  pub ran_without_memory : (status : Status) (input : List ℕ) (after : Option Stream) (said now : Option (List ℕ))
      → Ran m told service status input after said now → Ran m told service Memory input after said now
  ran_without_memory status input after said now r = record {
    outcome = r.outcome;
    source = r.source;
    taken = r.taken;
    within = r.within;
    budget = r.budget;
    at_end = r.at_end;
    stream = r.stream;
    output = r.output;
    prefix = r.prefix;
    end = tt;
  }
