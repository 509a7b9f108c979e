-- What a run has come to while its input comes, and where the input ends.
use Rattle.std.proofs.Common.{◌≡◌, ℕ, ◌+◌, ◌<◌, ◌^◌, Bool, true, false, List, [], ◌∷◌, ◌++◌, length, length-append, take, drop, ◌==◌, Option, Some}
use Rattle.std.proofs.Common.{option_map, IfSome, Result, Ok, Err, OnOk, IfErr, IsErrOf, refl, ap, ◌∙◌, sym, subst, append_assoc, append-nil, arith}
use Rattle.std.proofs.lemmas.List.{take-append-drop}
use Rattle.std.proofs.lemmas.Bool.Decides.{nat_tests}
use Rattle.dets_term.specs.TermValue.{TermValue}
use Rattle.feed_model.specs.Meaning.{goes_on, ends, no_term, Meaning}
use Rattle.feed_model.specs.Feed.{Feed}
use Rattle.feed_model.specs.Steady.{Steady}
use Rattle.host_model.specs.Source.{Stream, after_read}
use Rattle.host_model.specs.Host.{Shown}
use Rattle.dets_tool.specs.declared.status.Status.{Status}
use Rattle.dets_tool.specs.declared.status.Status.TheVariants.{Done, Input, WordsRefused, Disk, SourceFault, Output, Memory, File, NotYet}
use Rattle.dets_tool.specs.declared.status.InputWhy.TheVariants.{TooMuch, Text, Etf}
use Rattle.dets_tool.specs.declared.input_feed.PullFault.{PullFault}
use Rattle.dets_tool.specs.declared.input_feed.PullFault.TheVariants.{SourceFault as SourceFailed, TooMuch as PastBudget}
use Rattle.dets_tool.specs.InputFeed.{InputFeedValue, GivesPiece, Ends, Pulled}
use Rattle.dets_tool.specs.Service.{Service}
use Rattle.dets_tool.specs.Status.{status_of_pull, status_of_run, IsRefusal}
use Rattle.dets_tool.specs.Run.{Ran}
use Rattle.dets_tool.specs.Serving.{Standing, standing, behind_piece, IsWaiting, Serves, IsUnserved, Stops, at_term, at_fault, at_memory, Breaks}
use Rattle.dets_tool.proofs.Serving.{Serves-none, Serves-append, Serves-more, Serves-finish, Breaks-behind}
use Rattle.dets_tool.proofs.Runs.{taken, took, took_all, ran_source_fault, ran_too_much, ran_done, ran_memory, ran_break}

not_ended : (n : ℕ) → 0 < n → (n == 0) ≡ false
not_ended n h = grind (arith, nat_tests)

-- the stream behind a piece
stream_behind : (old new : InputFeedValue) (before after : Option Stream) (left : List ℕ) → before ≡ Some (record { left = left; ended = false })
    → GivesPiece old new before after
    → (after ≡ Some (record { left = drop (length new.piece) left; ended = false })) × (left ≡ new.piece ++ drop (length new.piece) left)
stream_behind old new before after left e p = (
  p.taken ∙ ap (option_map (after_read (length new.piece))) e
      ∙ ap (λ b. Some (record { left = drop (length new.piece) left; ended = b })) (not_ended (length new.piece) p.some),
  sym (take-append-drop (length new.piece) left)
      ∙ ap (λ l. l ++ drop (length new.piece) left) (sym (subst (λ (o : Option Stream). IfSome o (λ s. new.piece ≡ take (length new.piece) s.left)) e p.given)),
)

split_piece : (input bytes piece left rest : List ℕ) → input ≡ bytes ++ left → left ≡ piece ++ rest → input ≡ (bytes ++ piece) ++ rest
split_piece input bytes piece left rest e f = e ∙ ap (λ l. bytes ++ l) f ∙ sym (append_assoc bytes piece rest)

ended_stream : (old new : InputFeedValue) (before after : Option Stream) (left : List ℕ) → before ≡ Some (record { left = left; ended = false })
    → Ends old new before after → (after ≡ Some (record { left = []; ended = true })) × (left ≡ [])
ended_stream old new before after left e p =
    let none : left ≡ [] = subst (λ (o : Option Stream). IfSome o (λ s. s.left ≡ [])) e p.end in
    (p.taken ∙ ap (option_map (after_read 0)) e ∙ ap (λ l. Some (record { left = l; ended = true })) none, none)

some_first : (xs : List ℕ) → 0 < length xs → 0 < length (take 1 xs)
some_first [] h = h
some_first (x ∷ xs) h = omega arith

module _ {F S : Type 0} (m : Meaning F) (told : F → ℕ → Status) (service : Service S) where
  -- these bytes of the input were taken, and the terms in front of them answered
  pub record HasTaken (input : List ℕ) (room : ℕ) (now : Option Stream) (said : Option (List ℕ)) (here : Standing S) : Type 0 where
    pub bytes : List ℕ
    pub left : List ℕ
    pub source : now ≡ Some (record { left = left; ended = false })
    pub split : input ≡ bytes ++ left
    pub budget : length bytes + room ≡ 2 ^ 32
    pub served : Serves m service false (taken service bytes said) here

  pub taken_none : (stream : Stream) (now : Option Stream) (said : Option (List ℕ)) (room : ℕ) → now ≡ Some stream → stream.ended ≡ false → room ≡ 2 ^ 32
      → HasTaken stream.left room now said (taken service [] said)
  taken_none stream now said room e f h = record {
    bytes = [];
    left = stream.left;
    source = e ∙ ap (λ b. Some (record { left = stream.left; ended = b })) f;
    split = refl;
    budget = omega (arith, h);
    served = Serves-none m service false (taken service [] said);
  }

  pub taken_piece : (input : List ℕ) (old new : InputFeedValue) (before after : Option Stream) (said : Option (List ℕ)) (here then : Standing S)
      → HasTaken input old.room before said here → GivesPiece old new before after
      → Serves m service false (behind_piece new.piece here) then → HasTaken input new.room after said then
  taken_piece input old new before after said here then h p s =
      let b = stream_behind old new before after h.left h.source p in record {
        bytes = h.bytes ++ new.piece;
        left = drop (length new.piece) h.left;
        source = b.0;
        split = split_piece input h.bytes new.piece h.left (drop (length new.piece) h.left) h.split b.1;
        budget = omega (arith, h.budget, p.room, length-append h.bytes new.piece);
        served =
            Serves-append m service false (taken service (h.bytes ++ new.piece) said) (behind_piece new.piece here) then
            (Serves-more m service false (taken service h.bytes said) here new.piece h.served) s;
      }

  module _ (steady : Steady m) (others : (fault : F) (fed : ℕ) → IsRefusal (told fault fed)) where
    -- a piece whose terms were not all answered
    pub piece_breaks : (status : Status) (input : List ℕ) (old new : InputFeedValue) (before after : Option Stream) (said now : Option (List ℕ))
        (here : Standing S) → HasTaken input old.room before said here → GivesPiece old new before after
        → Breaks m told service status false (behind_piece new.piece here) now → Ran m told service status input after said now
    piece_breaks status input old new before after said now here h p f =
        let b = stream_behind old new before after h.left h.source p in
        subst (λ (o : Option Stream). Ran m told service status input o said now) (sym b.0)
        (ran_break m told service steady others status false (h.bytes ++ new.piece) (drop (length new.piece) h.left) input said now
        (Breaks-behind m service told status false (taken service (h.bytes ++ new.piece) said) (behind_piece new.piece here) now
        (Serves-more m service false (taken service h.bytes said) here new.piece h.served) f)
        (took (h.bytes ++ new.piece) (drop (length new.piece) h.left) input
        (split_piece input h.bytes new.piece h.left (drop (length new.piece) h.left) h.split b.1)
        (omega (arith, h.budget, p.room, length-append h.bytes new.piece))))

    -- ---- at the end of the input

    pub input_done : (input : List ℕ) (old new : InputFeedValue) (before after : Option Stream) (said : Option (List ℕ)) (here then : Standing S)
        → HasTaken input old.room before said here → Ends old new before after
        → Serves m service true here then → m.Stands true then.offset then.left (no_term ends) → Ran m told service Done input after said then.said
    input_done input old new before after said here then h p s w =
        let e = ended_stream old new before after h.left h.source p in
        subst (λ (o : Option Stream). Ran m told service Done input o said then.said) (sym e.0)
        (ran_done m told service h.bytes input said then
        (Serves-append m service true (taken service h.bytes said) here then (Serves-finish m service (taken service h.bytes said) here h.served) s) w
        (took_all h.bytes input (h.split ∙ ap (λ l. h.bytes ++ l) e.1 ∙ append-nil h.bytes) (omega (arith, h.budget))))

    pub input_breaks : (status : Status) (input : List ℕ) (old new : InputFeedValue) (before after : Option Stream) (said now : Option (List ℕ))
        (here : Standing S) → HasTaken input old.room before said here → Ends old new before after
        → Breaks m told service status true here now → Ran m told service status input after said now
    input_breaks status input old new before after said now here h p f =
        let e = ended_stream old new before after h.left h.source p in
        subst (λ (o : Option Stream). Ran m told service status input o said now) (sym e.0)
        (ran_break m told service steady others status true h.bytes [] input said now
        (Breaks-behind m service told status true (taken service h.bytes said) here now
        (Serves-finish m service (taken service h.bytes said) here h.served) f)
        (took_all h.bytes input (h.split ∙ ap (λ l. h.bytes ++ l) e.1 ∙ append-nil h.bytes) (omega (arith, h.budget))))

    -- the last terms, behind the end of the input
    pub input_ends : (result : Result Unit Status) (input : List ℕ) (old new : InputFeedValue) (before after : Option Stream) (said now : Option (List ℕ))
        (here then : Standing S) → now ≡ then.said → HasTaken input old.room before said here → Ends old new before after
        → OnOk result (m.Stands true then.offset then.left (no_term ends)) → OnOk result (Serves m service true here then)
        → IfErr result (λ status. Breaks m told service status true here now) → Ran m told service (status_of_run result) input after said now
    input_ends (Ok done) input old new before after said now here then e h p w s b =
        subst (λ o. Ran m told service Done input after said o) (sym e) (input_done input old new before after said here then h p s w)
    input_ends (Err status) input old new before after said now here then e h p w s b =
        input_breaks status input old new before after said now here h p b

    -- where there was no memory for the pieces
    pub no_input : (stream : Stream) (now : Option Stream) (said : Option (List ℕ)) → now ≡ Some stream → stream.ended ≡ false
        → Ran m told service Memory stream.left now said said
    no_input stream now said e f =
        subst (λ (o : Option Stream). Ran m told service Memory stream.left o said said) (sym (e ∙ ap (λ b. Some (record { left = stream.left; ended = b })) f))
        (ran_memory m told service steady others false [] stream.left stream.left said said (taken service [] said)
        (Serves-none m service false (taken service [] said)) refl (took [] stream.left stream.left refl (omega arith)))

  -- a pull that gave no piece
  pub pull_fails : (fault : PullFault) (input : List ℕ) (old new : InputFeedValue) (before after : Option Stream) (said : Option (List ℕ)) (here : Standing S)
      → HasTaken input old.room before said here → m.Stands false here.offset here.left (no_term goes_on)
      → Pulled (Err fault) old new before after → Ran m told service (status_of_pull fault) input after said here.said
  pull_fails SourceFailed input old new before after said here h w p =
      subst (λ (o : Option Stream). Ran m told service SourceFault input o said here.said) (sym (p.untaken ∙ h.source))
      (ran_source_fault m told service h.bytes h.left input said here h.served w (took h.bytes h.left input h.split (omega (arith, h.budget))))
  pull_fails PastBudget input old new before after said here h w p =
      let after_is : after ≡ Some (record { left = drop 1 h.left; ended = false }) = p.taken ∙ ap (option_map (after_read 1)) h.source in
      let some : 0 < length h.left = subst (λ (o : Option Stream). IfSome o (λ s. 0 < length s.left)) h.source p.more in
      subst (λ (o : Option Stream). Ran m told service (Input (2 ^ 32) TooMuch) input o said here.said) (sym after_is)
      (ran_too_much m told service h.bytes (take 1 h.left) (drop 1 h.left) input said here h.served w
      (record {
        taken = h.split ∙ ap (λ l. h.bytes ++ l) (sym (take-append-drop 1 h.left));
        within = omega (arith, h.budget);
        budget = λ _. omega (arith, h.budget, p.used_up);
        at_end = λ e. cc;
      }) (some_first h.left some))

  -- ---- what a run never ends by

  -- what ends a run at a term or a fault
  abbrev EndsService : Status → Type 0
  EndsService (Input offset TooMuch) = ⊥
  EndsService (Input offset why) = Unit {0}
  EndsService Output = Unit {0}
  EndsService Memory = Unit {0}
  EndsService (NotYet number) = Unit {0}
  EndsService other = ⊥

  refusal_ends : (status : Status) → IsRefusal status → EndsService status
  refusal_ends (Input offset TooMuch) r = r
  refusal_ends (Input offset (Text why)) r = tt
  refusal_ends (Input offset (Etf why)) r = tt
  refusal_ends Memory r = tt
  refusal_ends Done r = r
  refusal_ends WordsRefused r = r
  refusal_ends Disk r = r
  refusal_ends (File why) r = r
  refusal_ends SourceFault r = r
  refusal_ends Output r = absurd r
  refusal_ends (NotYet number) r = absurd r

  ends_service : ((fault : F) (fed : ℕ) → IsRefusal (told fault fed)) → (status : Status) (finished : Bool) (old : Standing S) (now : Option (List ℕ))
      → Breaks m told service status finished old now → EndsService status
  ends_service others status finished old now b = by_stop status b.stops
    where
      unserved : (status : Status) (t : TermValue) → IsUnserved service status b.here t now → EndsService status
      unserved Done t u = u
      unserved (Input offset why) t u = absurd u
      unserved WordsRefused t u = u
      unserved Disk t u = u
      unserved (File why) t u = u
      unserved SourceFault t u = u
      unserved Output t u = tt
      unserved Memory t u = tt
      unserved (NotYet number) t u = tt

      by_stop : (status : Status) → Stops m told service finished b.here now status → EndsService status
      by_stop status (at_term _ t n next u) = unserved status t u
      by_stop _ (at_fault fault a o) = refusal_ends (told fault _) (others fault _)
      by_stop _ (at_memory o) = tt

  -- so it is no fault of the source or the disk, and no refusal of words
  pub no_source_fault : ((fault : F) (fed : ℕ) → IsRefusal (told fault fed)) → (status : Status) (finished : Bool) (old : Standing S)
      (now : Option (List ℕ)) → Breaks m told service status finished old now → status ≡ SourceFault → ⊥
  no_source_fault others status finished old now b e = subst EndsService e (ends_service others status finished old now b)

  pub no_words : ((fault : F) (fed : ℕ) → IsRefusal (told fault fed)) → (status : Status) (finished : Bool) (old : Standing S)
      (now : Option (List ℕ)) → Breaks m told service status finished old now → status ≡ WordsRefused → ⊥
  no_words others status finished old now b e = subst EndsService e (ends_service others status finished old now b)

  pub no_disk_fault : ((fault : F) (fed : ℕ) → IsRefusal (told fault fed)) → (status : Status) (finished : Bool) (old : Standing S)
      (now : Option (List ℕ)) → Breaks m told service status finished old now → status ≡ Disk → ⊥
  no_disk_fault others status finished old now b e = subst EndsService e (ends_service others status finished old now b)

-- ---- the last terms, answered by a feed that was told that no more comes

pub ran_behind : {F S : Type 0} (m : Meaning F) (told : F → ℕ → Status) (service : Service S) → Steady m
    → ((fault : F) (fed : ℕ) → IsRefusal (told fault fed)) → (result : Result Unit Status) (input : List ℕ) (old new : InputFeedValue)
    (before after : Option Stream) (said : Option (List ℕ)) (open_feed closed feed : Feed F) (state then : S) (answered count : ℕ) (host now : Shown)
    → closed ≡ record open_feed { finished = true } → HasTaken m told service input old.room before said (standing open_feed state answered host)
    → Ends old new before after → OnOk result (IsWaiting m closed.finished feed)
    → OnOk result (Serves m service closed.finished (standing closed state answered host) (standing feed then count now))
    → IfErr result (λ status. Breaks m told service status closed.finished (standing closed state answered host) now.said)
    → Ran m told service (status_of_run result) input after said now.said
ran_behind {F} m told service steady others result input old new before after said open_feed closed feed state then answered count host now e h p w s b =
    input_ends m told service steady others result input old new before after said now.said (standing open_feed state answered host)
    (standing feed then count now) refl h p
    (subst (λ (c : Feed F). OnOk result (IsWaiting m c.finished feed)) e w)
    (subst (λ (c : Feed F). OnOk result (Serves m service c.finished (standing c state answered host) (standing feed then count now))) e s)
    (subst (λ (c : Feed F). IfErr result (λ status. Breaks m told service status c.finished (standing c state answered host) now.said)) e b)

-- a status that a call which answers terms never gives
pub broken_by : {F S P : Type 0} (m : Meaning F) (told : F → ℕ → Status) (service : Service S) (result : Result Unit Status) (finished : Bool)
    (old : Standing S) (now : Option (List ℕ)) (status : Status) → IsErrOf result status
    → IfErr result (λ s. Breaks m told service s finished old now) → (Breaks m told service status finished old now → P) → P
broken_by m told service (Ok done) finished old now status e b never = cc
broken_by m told service (Err s) finished old now status e b never =
    let same : s ≡ status = cc in
    never (subst (λ x. Breaks m told service x finished old now) same b)
