-- The calls of a feed one behind the other. This project's own.
use Rattle.std.specs.Prelude.{◌≡◌, ◌≢◌, ℕ, Bool, true, false, List, [], ◌∷◌, ◌++◌, Result, Ok, Err}
use Rattle.dets_term.specs.TermValue.{TermValue}
use Rattle.feed_model.specs.declared.fed.Fed.{Fed}
use Rattle.feed_model.specs.declared.fed.Fed.TheVariants.{Term, Again, End}
use Rattle.feed_model.specs.Meaning.{Behind, goes_on, ends, breaks, Meaning}
use Rattle.feed_model.specs.Feed.{Feed, with_piece, IsNext}

-- a call and what came of it
pub data Call (F : Type 0) : Type 0 where
  -- this piece was fed
  Piece : List ℕ → Call F
  -- no more input comes, it was said
  Finish : Call F
  -- this was answered by `next`
  Answer : Result Fed F → Call F

-- These calls may come one behind the other, from a state on. Where memory was wanted for a piece it was not fed, and this is no call
-- here.
abbrev pub IsHistory : {F : Type 0} → Meaning F → Feed F → List (Call F) → Type 0
IsHistory m s [] = Unit {0}
IsHistory m s (Piece piece ∷ calls) = (s.finished ≡ false) × IsHistory m (with_piece s piece) calls
IsHistory m s (Finish ∷ calls) = IsHistory m (record s { finished = true }) calls
IsHistory {F} m s (Answer r ∷ calls) = (new : Feed F) × IsNext m s new r × IsHistory m new calls

-- all that was fed
abbrev pub fed_bytes : {F : Type 0} → List (Call F) → List ℕ
fed_bytes [] = []
fed_bytes (Piece piece ∷ calls) = piece ++ fed_bytes calls
fed_bytes (Finish ∷ calls) = fed_bytes calls
fed_bytes (Answer r ∷ calls) = fed_bytes calls

-- the terms among the answers
abbrev pub answered_terms : {F : Type 0} → List (Call F) → List TermValue
answered_terms [] = []
answered_terms (Piece piece ∷ calls) = answered_terms calls
answered_terms (Finish ∷ calls) = answered_terms calls
answered_terms (Answer (Ok (Term t)) ∷ calls) = t ∷ answered_terms calls
answered_terms (Answer r ∷ calls) = answered_terms calls

-- whether the end of input was said
abbrev pub is_finished : {F : Type 0} → List (Call F) → Bool
is_finished [] = false
is_finished (Piece piece ∷ calls) = is_finished calls
is_finished (Finish ∷ calls) = true
is_finished (Answer r ∷ calls) = is_finished calls

-- what is answered to what stands behind the last term
abbrev pub answer_to : {F : Type 0} → Behind F → Result Fed F
answer_to goes_on = Ok Again
answer_to ends = Ok End
answer_to (breaks fault) = Err fault

-- no term comes behind this answer: it is End, or a fault, which is answered again from now on; want of memory is none
abbrev pub IsLast : {F : Type 0} → Meaning F → Behind F → Type 0
IsLast m goes_on = ⊥
IsLast m ends = Unit {0}
IsLast m (breaks fault) = fault ≢ m.memory

-- the last of the calls gave such an answer
abbrev pub EndsBy : {F : Type 0} → Meaning F → List (Call F) → Behind F → Type 0
EndsBy {F} m calls behind = (before : List (Call F)) × (calls ≡ before ++ (Answer (answer_to behind) ∷ [])) × IsLast m behind
