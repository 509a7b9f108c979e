-- Lemmas: whatever pieces a stream is fed in, a feed that comes to its last answer gave what the stream gives.
use Rattle.std.proofs.Common.{◌≡◌, ◌≢◌, ℕ, ◌+◌, true, List, [], ◌∷◌, ◌++◌, Option, Some, None, Result, Ok, Err, refl, ap, ap₂, sym, ◌∙◌, subst, inl, inr}
use Rattle.std.proofs.Common.{append_assoc}
use Rattle.std.proofs.lemmas.List.{drop-append-le}
use Rattle.dets_term.specs.TermValue.{TermValue}
use Rattle.feed_model.specs.declared.fed.Fed.{Fed}
use Rattle.feed_model.specs.declared.fed.Fed.TheVariants.{Term, Again, End}
use Rattle.feed_model.specs.Meaning.{Behind, goes_on, ends, breaks, a_term, no_term, Meaning}
use Rattle.feed_model.specs.Feed.{Feed, empty_feed, with_piece, passed, failed, Holds, Gives, gives_behind, IsNext}
use Rattle.feed_model.specs.Stream.{IsStream}
use Rattle.feed_model.specs.History.{Call, IsHistory, fed_bytes, answered_terms, is_finished, answer_to, IsLast, EndsBy}
use Rattle.feed_model.specs.History.Call.{Piece, Finish, Answer}
use Rattle.feed_model.specs.Steady.{Steady}
use Rattle.feed_model.specs.OneAnswer.{one_list}

-- ---- behind the end of input

keeps_finished : {F : Type 0} (m : Meaning F) (s new : Feed F) (r : Result Fed F) → Gives m s new r → new.finished ≡ s.finished
keeps_finished {F} m s new (Ok (Term t)) (count, is, e) = ap (λ (n : Feed F). n.finished) e
keeps_finished {F} m s new (Ok Again) (is, e) = ap (λ (n : Feed F). n.finished) e
keeps_finished {F} m s new (Ok End) (is, e) = ap (λ (n : Feed F). n.finished) e
keeps_finished {F} m s new (Err fault) (inl (is, e)) = ap (λ (n : Feed F). n.finished) e
keeps_finished {F} m s new (Err fault) (inr (none, e)) = ap (λ (n : Feed F). n.finished) e

stays_behind : {F : Type 0} (m : Meaning F) (came : Option F) (s new : Feed F) (r : Result Fed F) → gives_behind came m s new r
    → new.finished ≡ s.finished
stays_behind m None s new r h = keeps_finished m s new r h
stays_behind {F} m (Some fault) s new r h = ap (λ (n : Feed F). n.finished) h.1

pub stays_finished : {F : Type 0} (m : Meaning F) (s new : Feed F) (r : Result Fed F) → IsNext m s new r → new.finished ≡ s.finished
stays_finished m s new r h = stays_behind m s.fault s new r h

nothing_fed : {F : Type 0} (m : Meaning F) (calls : List (Call F)) (s : Feed F) → s.finished ≡ true → IsHistory m s calls → fed_bytes calls ≡ []
nothing_fed m [] s f h = refl
nothing_fed m (Piece piece ∷ calls) s f h = let clash = sym f ∙ h.0 in cc
nothing_fed m (Finish ∷ calls) s f h = nothing_fed m calls (record s { finished = true }) refl h
nothing_fed m (Answer r ∷ calls) s f (new, next, h) = nothing_fed m calls new (stays_finished m s new r next ∙ f) h

-- what is not yet fed: nothing, where the end of input was said
pub nothing_more : {F : Type 0} (m : Meaning F) (calls : List (Call F)) (s : Feed F) (rest : List ℕ) → IsHistory m s calls
    → (s.finished ≡ true → rest ≡ []) → s.finished ≡ true → fed_bytes calls ++ rest ≡ []
nothing_more m calls s rest h last f = ap₂ (λ xs ys. xs ++ ys) (nothing_fed m calls s f h) (last f)

-- ---- behind a fault

-- the calls, the last of which was answered so
abbrev ended : {F : Type 0} → List (Call F) → Result Fed F → List (Call F)
ended before answer = before ++ (Answer answer ∷ [])

answers_fault : {F : Type 0} (m : Meaning F) (s new : Feed F) (r : Result Fed F) (fault : F) → s.fault ≡ Some fault → IsNext m s new r
    → (r ≡ Err fault) × (new ≡ s)
answers_fault m s new r fault came next = subst (λ f. gives_behind f m s new r) came next

answers_anew : {F : Type 0} (m : Meaning F) (s new : Feed F) (r : Result Fed F) → s.fault ≡ None → IsNext m s new r → Gives m s new r
answers_anew m s new r none next = subst (λ f. gives_behind f m s new r) none next

behind_fault : {F : Type 0} (m : Meaning F) (before : List (Call F)) (answer : Result Fed F) (s : Feed F) (fault : F) → s.fault ≡ Some fault
    → IsHistory m s (ended before answer) → (answered_terms (ended before answer) ≡ []) × (answer ≡ Err fault)
behind_fault m [] answer s fault came (new, next, h) =
    let again = answers_fault m s new answer fault came next in
    (ap (λ r. answered_terms (Answer r ∷ [])) again.0, again.0)
behind_fault m (Piece piece ∷ before) answer s fault came h = behind_fault m before answer (with_piece s piece) fault came h.1
behind_fault m (Finish ∷ before) answer s fault came h = behind_fault m before answer (record s { finished = true }) fault came h
behind_fault {F} m (Answer r ∷ before) answer s fault came (new, next, h) =
    let again = answers_fault m s new r fault came next in
    let rest = behind_fault m before answer new fault (ap (λ (n : Feed F). n.fault) again.1 ∙ came) h in
    (ap (λ r. answered_terms (Answer r ∷ ended before answer)) again.0 ∙ rest.0, rest.1)

-- ---- what the stream gives, from a state without a fault on

module _ {F : Type 0} (m : Meaning F) (steady : Steady m) (behind : Behind F) (last : IsLast m behind) (rest : List ℕ) where
  -- what the stream of what is left, and of all that is fed and not yet fed, gives
  abbrev GivesOf : Feed F → List (Call F) → Type 0
  GivesOf s calls = IsStream m true s.offset (s.left ++ (fed_bytes calls ++ rest)) (answered_terms calls) behind

  -- the calls, behind which comes the last answer
  abbrev closing : List (Call F) → List (Call F)
  closing before = ended before (answer_to behind)

  without_term : (x : Behind F) → answered_terms {F = F} (Answer (answer_to x) ∷ []) ≡ []
  without_term goes_on = refl
  without_term ends = refl
  without_term (breaks fault) = refl

  holds_last : (s new : Feed F) (x : Behind F) → IsLast m x → Gives m s new (answer_to x) → Holds m s (no_term x)
  holds_last s new goes_on is h = absurd is
  holds_last s new ends is h = h.0
  holds_last s new (breaks fault) is (inl h) = h.0
  holds_last s new (breaks fault) is (inr h) = absurd (is h.0)

  is_settled : (x : Behind F) → IsLast m x → no_term x ≢ no_term goes_on
  is_settled goes_on is e = is
  is_settled ends is e = cc
  is_settled (breaks fault) is e = cc

  gives_last : (s new : Feed F) → (s.finished ≡ true → rest ≡ []) → Gives m s new (answer_to behind) → GivesOf s (closing [])
  gives_last s new done h =
      subst (λ ts. IsStream m true s.offset (s.left ++ rest) ts behind) (sym (without_term behind))
      (steady.stays s.finished true s.offset s.left rest (no_term behind) (is_settled behind last) (λ f. (refl, done f)) (holds_last s new behind last h))

  gives_piece : (calls : List (Call F)) (s : Feed F) (piece : List ℕ) → GivesOf (with_piece s piece) calls → GivesOf s (Piece piece ∷ calls)
  gives_piece calls s piece h =
      let fed = fed_bytes calls in
      subst (λ bytes. IsStream m true s.offset bytes (answered_terms calls) behind)
      (append_assoc s.left piece (fed ++ rest) ∙ ap (λ l. s.left ++ l) (sym (append_assoc piece fed rest))) h

  gives_term : (calls : List (Call F)) (s : Feed F) (t : TermValue) (count : ℕ) → (s.finished ≡ true → rest ≡ [])
      → Holds m s (a_term t count) → IsHistory m (passed s count) calls → GivesOf (passed s count) calls → GivesOf s (Answer (Ok (Term t)) ∷ calls)
  gives_term calls s t count done front on h =
      let more = fed_bytes calls ++ rest in
      let same = drop-append-le count s.left more (steady.within s.finished s.offset s.left t count front).1 in (
        count,
        steady.stays s.finished true s.offset s.left more (a_term t count) (λ e. cc)
            (λ f. (refl, nothing_more m calls (passed s count) rest on done f)) front,
        subst (λ bytes. IsStream m true (s.offset + count) bytes (answered_terms calls) behind) (sym same) h,
      )

  answers_to_breaks : (x : Behind F) (fault : F) → answer_to x ≡ Err fault → x ≡ breaks fault
  answers_to_breaks goes_on fault e = cc
  answers_to_breaks ends fault e = cc
  answers_to_breaks (breaks other) fault e = cc

  gives_fault : (before : List (Call F)) (s : Feed F) (fault : F) → (s.finished ≡ true → rest ≡ []) → Holds m s (no_term (breaks fault))
      → IsHistory m (failed s fault) (closing before) → GivesOf s (closing before)
  gives_fault before s fault done is h =
      let calls = closing before in
      let more = fed_bytes calls ++ rest in
      let stays = steady.stays s.finished true s.offset s.left more (no_term (breaks fault)) (λ e. cc)
      (λ f. (refl, nothing_more m calls (failed s fault) rest h done f)) is in
      let on = behind_fault m before (answer_to behind) (failed s fault) fault refl h in
      subst (λ ts. IsStream m true s.offset (s.left ++ more) ts behind) (sym on.0)
      (subst (λ x. m.Stands true s.offset (s.left ++ more) (no_term x)) (sym (answers_to_breaks behind fault on.1)) stays)

  -- what holds of the calls from a state without a fault on
  abbrev GivesOn : List (Call F) → Type 0
  GivesOn before = (s : Feed F) → s.fault ≡ None → (s.finished ≡ true → rest ≡ []) → (is_finished (closing before) ≡ true → rest ≡ [])
      → IsHistory m s (closing before) → GivesOf s (closing before)

  gives_answer : (before : List (Call F)) → GivesOn before → (s new : Feed F) (r : Result Fed F) → s.fault ≡ None
      → (s.finished ≡ true → rest ≡ []) → (is_finished (closing before) ≡ true → rest ≡ []) → Gives m s new r
      → IsHistory m new (closing before) → GivesOf s (Answer r ∷ closing before)
  gives_answer before on s new (Ok (Term t)) none done all (count, is, e) h =
      let behind_it = subst (λ n. IsHistory m n (closing before)) e h in
      gives_term (closing before) s t count done is behind_it (on (passed s count) none done all behind_it)
  gives_answer before on s new (Ok Again) none done all (is, e) h = on s none done all (subst (λ n. IsHistory m n (closing before)) e h)
  gives_answer before on s new (Ok End) none done all (is, e) h = on s none done all (subst (λ n. IsHistory m n (closing before)) e h)
  gives_answer before on s new (Err fault) none done all (inl (is, e)) h =
      gives_fault before s fault done is (subst (λ n. IsHistory m n (closing before)) e h)
  gives_answer before on s new (Err fault) none done all (inr (short, e)) h =
      on s none done all (subst (λ n. IsHistory m n (closing before)) e h)

  gives_on : (before : List (Call F)) → GivesOn before
  gives_on [] s none done all (new, next, h) = gives_last s new done (answers_anew m s new (answer_to behind) none next)
  gives_on (Piece piece ∷ before) s none done all h =
      gives_piece (closing before) s piece (gives_on before (with_piece s piece) none done all h.1)
  gives_on (Finish ∷ before) s none done all h = gives_on before (record s { finished = true }) none (λ f. all refl) (λ f. all refl) h
  gives_on (Answer r ∷ before) s none done all (new, next, h) =
      gives_answer before (gives_on before) s new r none done all (answers_anew m s new r none next) h

-- ---- from an empty feed on

pub terms_of_stream : {F : Type 0} (m : Meaning F) → Steady m → (calls : List (Call F)) (behind : Behind F) (rest : List ℕ)
    → IsHistory m empty_feed calls → EndsBy m calls behind → (is_finished calls ≡ true → rest ≡ [])
    → IsStream m true 0 (fed_bytes calls ++ rest) (answered_terms calls) behind
terms_of_stream m steady calls behind rest h (before, e, last) all =
    subst (λ cs. IsStream m true 0 (fed_bytes cs ++ rest) (answered_terms cs) behind) (sym e)
    (gives_on m steady behind last rest before empty_feed refl (λ f. cc) (subst (λ cs. is_finished cs ≡ true → rest ≡ []) e all)
    (subst (IsHistory m empty_feed) e h))

-- two histories of one stream
pub same_terms : {F : Type 0} (m : Meaning F) → Steady m → (calls others : List (Call F)) (behind other : Behind F) (rest more : List ℕ)
    → IsHistory m empty_feed calls → EndsBy m calls behind → (is_finished calls ≡ true → rest ≡ [])
    → IsHistory m empty_feed others → EndsBy m others other → (is_finished others ≡ true → more ≡ [])
    → fed_bytes calls ++ rest ≡ fed_bytes others ++ more → (answered_terms calls ≡ answered_terms others) × (behind ≡ other)
same_terms m steady calls others behind other rest more h by done k also closed stream =
    one_list m steady true 0 (fed_bytes others ++ more) (answered_terms calls) (answered_terms others) behind other
    (subst (λ bytes. IsStream m true 0 bytes (answered_terms calls) behind) stream (terms_of_stream m steady calls behind rest h by done))
    (terms_of_stream m steady others other more k also closed)
