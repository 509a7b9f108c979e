-- What a run comes to: the bytes that it takes of its input, their terms, the answers, and what is written at its end, over what bytes
-- mean, the status of each fault, and what is done with a term. All of it is this project's own.
use mathlib.Core.List.{IsPrefix}
use Rattle.std.specs.Prelude.{◌≡◌, ℕ, ◌<◌, ◌≤◌, ◌^◌, Bool, true, false, List, [], ◌++◌, length, flat_map, Option, Some, option_map}
use Rattle.dets_term.specs.TermValue.{TermValue}
use Rattle.feed_model.specs.Meaning.{Behind, goes_on, ends, breaks, Meaning}
use Rattle.feed_model.specs.Stream.{IsStream}
use Rattle.run_model.specs.History.{answers}
use Rattle.host_model.specs.Source.{Stream}
use Rattle.dets_tool.specs.declared.status.InputWhy.TheVariants.{TooMuch}
use Rattle.dets_tool.specs.declared.status.Status.{Status}
use Rattle.dets_tool.specs.declared.status.Status.TheVariants.{Done, Input, WordsRefused, Disk, SourceFault, Output, Memory, File, NotYet}
use Rattle.dets_tool.specs.Service.{Service}

-- how a run stands at its end
pub record Outcome (F : Type 0) : Type 0 where
  -- the bytes that were taken, without those of a read past the budget
  pub bytes : List ℕ
  -- the bytes of that read
  pub past : List ℕ
  -- the bytes that the source has left
  pub left : List ℕ
  -- whether a read answered 0
  pub ended : Bool
  -- the terms of the bytes taken, and what stands behind them
  pub terms : List TermValue
  pub behind : Behind F
  pub written : List ℕ

module _ {F S : Type 0} (service : Service S) where
  -- the answers to the terms, up to the first that is not built
  abbrev pub answers_of : Outcome F → List TermValue
  answers_of c = answers service.step service.first c.terms

  -- and what is put for them
  abbrev pub text_of : Outcome F → List ℕ
  text_of c = flat_map service.line (answers_of c)

  abbrev pub HasWrittenAll : Outcome F → Type 0
  HasWrittenAll c = c.written ≡ text_of c

  -- each term was answered
  abbrev pub HasAnsweredAll : Outcome F → Type 0
  HasAnsweredAll c = length (answers_of c) ≡ length c.terms

  -- each term was answered, more of the input may come, and what stands behind the terms breaks no rule so far
  pub record GoesOn (c : Outcome F) : Type 0 where
    pub written : HasWrittenAll c
    pub all : HasAnsweredAll c
    pub open_end : c.ended ≡ false
    pub unbroken : c.behind ≡ goes_on

  -- each term was answered, and what stands behind them breaks a rule
  pub record BreaksRule (fault : F) (c : Outcome F) : Type 0 where
    pub written : HasWrittenAll c
    pub all : HasAnsweredAll c
    pub broken : c.behind ≡ breaks fault

  -- so many terms were answered, and the next one is a command that is not built
  pub record IsNotBuilt (answered : ℕ) (c : Outcome F) : Type 0 where
    pub written : HasWrittenAll c
    pub answered_to : answered ≡ length (answers_of c)
    pub next : answered < length c.terms

  -- each term was answered, and the input was read to its end
  pub record IsDone (c : Outcome F) : Type 0 where
    pub written : HasWrittenAll c
    pub all : HasAnsweredAll c
    pub ended : c.ended ≡ true
    pub at_end : c.behind ≡ ends

  -- what each status says of the run, where so many bytes and a fault behind them give the status that is told
  abbrev pub IsEndOf : (told : F → ℕ → Status) → Status → Outcome F → Type 0
  IsEndOf told Done c = (c.past ≡ []) × IsDone c
  IsEndOf told (Input offset TooMuch) c = (offset ≡ 2 ^ 32) × (0 < length c.past) × GoesOn c
  IsEndOf told (Input offset why) c = (c.past ≡ []) × (fault : F) × (told fault (length c.bytes) ≡ Input offset why) × BreaksRule fault c
  IsEndOf told WordsRefused c = ⊥
  IsEndOf told Disk c = ⊥
  IsEndOf told SourceFault c = (c.past ≡ []) × GoesOn c
  IsEndOf told Output c = c.past ≡ []
  IsEndOf told Memory c = Unit {0}
  IsEndOf told (File why) c = ⊥
  IsEndOf told (NotYet answered) c = (c.past ≡ []) × IsNotBuilt answered c

-- A run over an input, up to this status: what the source tells then, and what the host tells of its output at the start and then.
-- What was written is in each case a front of the text of the answers.
pub record Ran {F S : Type 0} (m : Meaning F) (told : F → ℕ → Status) (service : Service S) (status : Status) (input : List ℕ)
    (after : Option Stream) (said now : Option (List ℕ)) : Type 0 where
  pub outcome : Outcome F
  pub source : after ≡ Some (record { left = outcome.left; ended = outcome.ended })
  pub taken : input ≡ outcome.bytes ++ (outcome.past ++ outcome.left)
  pub within : length outcome.bytes ≤ 2 ^ 32
  pub budget : 0 < length outcome.past → length outcome.bytes ≡ 2 ^ 32
  pub at_end : outcome.ended ≡ true → outcome.left ≡ []
  pub stream : IsStream m outcome.ended 0 outcome.bytes outcome.terms outcome.behind
  pub output : now ≡ option_map (λ (output : List ℕ). output ++ outcome.written) said
  pub prefix : IsPrefix outcome.written (text_of service outcome)
  pub end : IsEndOf service told status outcome

-- an input whose terms are all answered, with nothing else behind them
pub record IsWhole {F S : Type 0} (m : Meaning F) (service : Service S) (input : List ℕ) : Type 0 where
  pub terms : List TermValue
  pub stream : IsStream m true 0 input terms ends
  pub all : length (answers service.step service.first terms) ≡ length terms
  pub within : length input ≤ 2 ^ 32

-- the input was served to its end, or a device or the memory failed before
abbrev pub IsServed : Status → Type 0
IsServed Done = Unit {0}
IsServed (Input offset why) = ⊥
IsServed WordsRefused = ⊥
IsServed Disk = ⊥
IsServed SourceFault = Unit {0}
IsServed Output = Unit {0}
IsServed Memory = Unit {0}
IsServed (File why) = ⊥
IsServed (NotYet answered) = ⊥
