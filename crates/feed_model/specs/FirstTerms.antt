-- Lemma: whatever a feed answered beside them, its terms so far are the first of its stream.
use Rattle.std.proofs.Common.{◌≡◌, ℕ, ◌+◌, true, List, [], ◌∷◌, ◌++◌, drop, Option, Some, None, Result, Ok, Err, refl, ap, ap₂, sym, ◌∙◌, subst, inl, inr}
use Rattle.std.proofs.Common.{append_assoc}
use Rattle.std.proofs.lemmas.List.{drop-append-le}
use Rattle.dets_term.specs.TermValue.{TermValue}
use Rattle.feed_model.specs.declared.fed.Fed.{Fed}
use Rattle.feed_model.specs.declared.fed.Fed.TheVariants.{Term, Again, End}
use Rattle.feed_model.specs.Meaning.{Behind, a_term, Meaning}
use Rattle.feed_model.specs.Feed.{Feed, empty_feed, with_piece, passed, Holds, Gives, gives_behind}
use Rattle.feed_model.specs.Stream.{IsStream}
use Rattle.feed_model.specs.History.{Call, IsHistory, fed_bytes, answered_terms, is_finished}
use Rattle.feed_model.specs.History.Call.{Piece, Finish, Answer}
use Rattle.feed_model.specs.Steady.{Steady}
use Rattle.feed_model.specs.OneAnswer.{one_term, no_other}
use Rattle.feed_model.specs.Histories.{nothing_more}

-- the first of some terms
abbrev AreFirst : (front all : List TermValue) → Type 0
AreFirst front all = (more : List TermValue) × (all ≡ front ++ more)

module _ {F : Type 0} (m : Meaning F) (steady : Steady m) (behind : Behind F) where
  -- the terms of these calls are the first of whatever the stream gives
  abbrev GivesFirst : List (Call F) → Type 0
  GivesFirst calls = (s : Feed F) (rest : List ℕ) (ts : List TermValue) → IsHistory m s calls → (s.finished ≡ true → rest ≡ [])
      → (is_finished calls ≡ true → rest ≡ []) → IsStream m true s.offset (s.left ++ (fed_bytes calls ++ rest)) ts behind
      → AreFirst (answered_terms calls) ts

  behind_piece : (calls : List (Call F)) → GivesFirst calls → (piece : List ℕ) → GivesFirst (Piece piece ∷ calls)
  behind_piece calls first piece s rest ts h done all given =
      let fed = fed_bytes calls in
      let same = ap (λ l. s.left ++ l) (append_assoc piece fed rest) ∙ sym (append_assoc s.left piece (fed ++ rest)) in
      first (with_piece s piece) rest ts h.1 done all (subst (λ bytes. IsStream m true s.offset bytes ts behind) same given)

  -- a term in front is the first that the stream gives
  behind_term : (calls : List (Call F)) → GivesFirst calls → (s : Feed F) (t : TermValue) (count : ℕ) → Holds m s (a_term t count)
      → (rest : List ℕ) (ts : List TermValue) → IsHistory m (passed s count) calls → (s.finished ≡ true → rest ≡ [])
      → (is_finished calls ≡ true → rest ≡ []) → IsStream m true s.offset (s.left ++ (fed_bytes calls ++ rest)) ts behind
      → AreFirst (t ∷ answered_terms calls) ts
  behind_term calls first s t count front rest ts h done all given =
      let more = fed_bytes calls ++ rest in
      by_terms ts given
      (steady.stays s.finished true s.offset s.left more (a_term t count) (λ e. cc)
      (λ f. (refl, nothing_more m calls (passed s count) rest h done f)) front)
    where
      by_terms : (ts : List TermValue) → IsStream m true s.offset (s.left ++ (fed_bytes calls ++ rest)) ts behind
          → m.Stands true s.offset (s.left ++ (fed_bytes calls ++ rest)) (a_term t count) → AreFirst (t ∷ answered_terms calls) ts
      by_terms [] given here = absurd (no_other m steady true s.offset (s.left ++ (fed_bytes calls ++ rest)) behind t count given here)
      by_terms (u ∷ us) (other, there, given) here =
          let more = fed_bytes calls ++ rest in
          let same = one_term m steady true s.offset (s.left ++ more) t u count other here there in
          let moved = subst (λ n. IsStream m true (s.offset + n) (drop n (s.left ++ more)) us behind) same.1 given in
          let dropped = drop-append-le count s.left more (steady.within s.finished s.offset s.left t count front).1 in
          let at = subst (λ bytes. IsStream m true (s.offset + count) bytes us behind) dropped moved in
          let rests = first (passed s count) rest us h done all at in
          (rests.0, ap₂ (λ x xs. x ∷ xs) (sym same.0) rests.1)

  -- nothing was taken, and no term was answered
  behind_others : (calls : List (Call F)) → GivesFirst calls → (s new : Feed F) → new.left ≡ s.left → new.offset ≡ s.offset
      → new.finished ≡ s.finished → (rest : List ℕ) (ts : List TermValue) → IsHistory m new calls → (s.finished ≡ true → rest ≡ [])
      → (is_finished calls ≡ true → rest ≡ []) → IsStream m true s.offset (s.left ++ (fed_bytes calls ++ rest)) ts behind
      → AreFirst (answered_terms calls) ts
  behind_others calls first s new left offset kept rest ts h done all given =
      let more = fed_bytes calls ++ rest in
      let at = subst (λ n. IsStream m true n (s.left ++ more) ts behind) (sym offset) given in
      first new rest ts h (λ f. done (sym kept ∙ f)) all (subst (λ bytes. IsStream m true new.offset (bytes ++ more) ts behind) (sym left) at)

  behind_same : (calls : List (Call F)) → GivesFirst calls → (s new : Feed F) → new ≡ s → (rest : List ℕ) (ts : List TermValue)
      → IsHistory m new calls → (s.finished ≡ true → rest ≡ []) → (is_finished calls ≡ true → rest ≡ [])
      → IsStream m true s.offset (s.left ++ (fed_bytes calls ++ rest)) ts behind → AreFirst (answered_terms calls) ts
  behind_same calls first s new e rest ts h done all given = first s rest ts (subst (λ n. IsHistory m n calls) e h) done all given

  behind_answer : (calls : List (Call F)) → GivesFirst calls → (s new : Feed F) (r : Result Fed F) → Gives m s new r
      → (rest : List ℕ) (ts : List TermValue) → IsHistory m new calls → (s.finished ≡ true → rest ≡ [])
      → (is_finished calls ≡ true → rest ≡ []) → IsStream m true s.offset (s.left ++ (fed_bytes calls ++ rest)) ts behind
      → AreFirst (answered_terms (Answer r ∷ calls)) ts
  behind_answer calls first s new (Ok (Term t)) (count, is, e) rest ts h done all given =
      behind_term calls first s t count is rest ts (subst (λ n. IsHistory m n calls) e h) done all given
  behind_answer calls first s new (Ok Again) (is, e) rest ts h done all given = behind_same calls first s new e rest ts h done all given
  behind_answer calls first s new (Ok End) (is, e) rest ts h done all given = behind_same calls first s new e rest ts h done all given
  behind_answer calls first s new (Err fault) (inr (none, e)) rest ts h done all given = behind_same calls first s new e rest ts h done all given
  behind_answer calls first s new (Err fault) (inl (is, e)) rest ts h done all given =
      behind_others calls first s new (ap (λ (n : Feed F). n.left) e) (ap (λ (n : Feed F). n.offset) e) (ap (λ (n : Feed F). n.finished) e)
      rest ts h done all given

  -- a fault that came is answered again
  behind_next : (calls : List (Call F)) → GivesFirst calls → (came : Option F) (s new : Feed F) (r : Result Fed F) → gives_behind came m s new r
      → (rest : List ℕ) (ts : List TermValue) → IsHistory m new calls → (s.finished ≡ true → rest ≡ [])
      → (is_finished calls ≡ true → rest ≡ []) → IsStream m true s.offset (s.left ++ (fed_bytes calls ++ rest)) ts behind
      → AreFirst (answered_terms (Answer r ∷ calls)) ts
  behind_next calls first None s new r next rest ts h done all given = behind_answer calls first s new r next rest ts h done all given
  behind_next calls first (Some fault) s new r next rest ts h done all given =
      subst (λ q. AreFirst (answered_terms (Answer q ∷ calls)) ts) (sym next.0) (behind_same calls first s new next.1 rest ts h done all given)

  gives_first : (calls : List (Call F)) → GivesFirst calls
  gives_first [] s rest ts h done all given = (ts, refl)
  gives_first (Piece piece ∷ calls) s rest ts h done all given = behind_piece calls (gives_first calls) piece s rest ts h done all given
  gives_first (Finish ∷ calls) s rest ts h done all given =
      gives_first calls (record s { finished = true }) rest ts h (λ f. all refl) (λ f. all refl) given
  gives_first (Answer r ∷ calls) s rest ts (new, next, h) done all given =
      behind_next calls (gives_first calls) s.fault s new r next rest ts h done all given

pub first_terms : {F : Type 0} (m : Meaning F) → Steady m → (calls : List (Call F)) (rest : List ℕ) (ts : List TermValue) (behind : Behind F)
    → IsHistory m empty_feed calls → (is_finished calls ≡ true → rest ≡ []) → IsStream m true 0 (fed_bytes calls ++ rest) ts behind
    → (more : List TermValue) × (ts ≡ answered_terms calls ++ more)
first_terms m steady calls rest ts behind h all given = gives_first m steady behind calls empty_feed rest ts h (λ f. cc) all given
