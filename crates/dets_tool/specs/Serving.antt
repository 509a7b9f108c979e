-- What happens while a run goes on: terms are taken from the front of some bytes and answered.
use Rattle.std.specs.Prelude.{◌≡◌, ℕ, ◌+◌, ◌≤◌, Bool, true, List, [], ◌++◌, length, flat_map, Option, Some, None, option_map, Result, IsErrOf}
use Rattle.dets_term.specs.TermValue.{TermValue}
use Rattle.feed_model.specs.Meaning.{Behind, goes_on, ends, breaks, a_term, no_term, Meaning}
use Rattle.feed_model.specs.Feed.{Feed}
use Rattle.feed_model.specs.Stream.{IsStream}
use Rattle.run_model.specs.History.{answers}
use Rattle.host_model.specs.Counts.{Rose}
use Rattle.host_model.specs.Host.{Shown, SaysFront}
use Rattle.dets_tool.specs.declared.status.Status.{Status}
use Rattle.dets_tool.specs.declared.status.Status.TheVariants.{Done, Input, WordsRefused, Disk, SourceFault, Output, Memory, File, NotYet}
use Rattle.dets_tool.specs.Service.{Service}

-- where a run stands
pub record Standing (S : Type 0) : Type 0 where
  -- the bytes that were fed and whose terms were not taken
  pub left : List ℕ
  -- the number of bytes of the input before them
  pub offset : ℕ
  pub state : S
  -- how many terms were answered
  pub answered : ℕ
  -- what was said, where the host tells that
  pub said : Option (List ℕ)

abbrev pub standing : {F S : Type 0} → Feed F → S → ℕ → Shown → Standing S
standing feed state answered host = record { left = feed.left; offset = feed.offset; state = state; answered = answered; said = host.said }

-- with one more piece of the input
abbrev pub behind_piece : {S : Type 0} → List ℕ → Standing S → Standing S
behind_piece piece s = record s { left = s.left ++ piece }

-- terms from the front of what was left were answered
pub record Serves {F S : Type 0} (m : Meaning F) (service : Service S) (finished : Bool) (old new : Standing S) : Type 0 where
  pub terms : List TermValue
  pub given : List TermValue
  -- what is left now gives, behind these terms, what was left then, also where more bytes follow
  pub stream : (then : Bool) (more : List ℕ) (ts : List TermValue) (behind : Behind F) → (finished ≡ true → (then ≡ true) × (more ≡ []))
      → IsStream m then new.offset (new.left ++ more) ts behind → IsStream m then old.offset (old.left ++ more) (terms ++ ts) behind
  -- no byte is lost
  pub fed : new.offset + length new.left ≡ old.offset + length old.left
  pub served : (more : List TermValue) → answers service.step old.state (terms ++ more) ≡ given ++ answers service.step new.state more
  pub all : length given ≡ length terms
  pub answered : new.answered ≡ old.answered + length given
  pub said : new.said ≡ option_map (λ (output : List ℕ). output ++ flat_map service.line given) old.said

-- a term was answered, and its line said
pub record Replies {S : Type 0} (service : Service S) (old new : Standing S) (term : TermValue) : Type 0 where
  pub reply : TermValue
  pub step : service.step old.state term ≡ Some (reply, new.state)
  pub left : new.left ≡ old.left
  pub offset : new.offset ≡ old.offset
  pub answered : new.answered ≡ old.answered + 1
  pub said : new.said ≡ option_map (λ (output : List ℕ). output ++ service.line reply) old.said

-- why a term was not answered from here: it is a command that is not built, its line was said in part, or there was no memory
abbrev pub IsUnserved : {S : Type 0} → Service S → Status → Standing S → TermValue → Option (List ℕ) → Type 0
IsUnserved service Done here term now = ⊥
IsUnserved service (Input offset why) here term now = ⊥
IsUnserved service WordsRefused here term now = ⊥
IsUnserved service Disk here term now = ⊥
IsUnserved service (File why) here term now = ⊥
IsUnserved service SourceFault here term now = ⊥
IsUnserved {S} service Output here term now =
    (reply : TermValue) × ((after : S) × (service.step here.state term ≡ Some (reply, after)) × SaysFront (service.line reply) here.said now)
IsUnserved service Memory here term now = now ≡ here.said
IsUnserved service (NotYet number) here term now = (number ≡ here.answered) × (service.step here.state term ≡ None) × (now ≡ here.said)

-- Why no more is answered from here: the next term was not, or there is none and never will be since a rule is broken, or there was no
-- memory. So many bytes were fed.
pub data Stops {F S : Type 0} (m : Meaning F) (told : F → ℕ → Status) (service : Service S) (finished : Bool) (here : Standing S)
    (now : Option (List ℕ)) : Status → Type 0 where
  at_term : (status : Status) (t : TermValue) (count : ℕ) → m.Stands finished here.offset here.left (a_term t count)
      → IsUnserved service status here t now → Stops m told service finished here now status
  at_fault : (fault : F) → m.Stands finished here.offset here.left (no_term (breaks fault)) → now ≡ here.said
      → Stops m told service finished here now (told fault (here.offset + length here.left))
  at_memory : now ≡ here.said → Stops m told service finished here now Memory

-- terms were answered up to one where a run stops
pub record Breaks {F S : Type 0} (m : Meaning F) (told : F → ℕ → Status) (service : Service S) (status : Status) (finished : Bool) (old : Standing S)
    (now : Option (List ℕ)) : Type 0 where
  pub here : Standing S
  pub served : Serves m service finished old here
  pub stops : Stops m told service finished here now status

-- no term is left: more input is needed, or there is none
abbrev pub waiting : {F : Type 0} → Bool → Behind F
waiting true = ends
waiting other = goes_on

abbrev pub IsWaiting : {F : Type 0} → Meaning F → Bool → Feed F → Type 0
IsWaiting m finished feed = m.Stands finished feed.offset feed.left (no_term (waiting finished))

-- a feed whose terms are answered, so many so far
pub record IsReady {F : Type 0} (finished : Bool) (feed : Feed F) (answered : ℕ) : Type 0 where
  pub at_end : feed.finished ≡ finished
  -- no rule was broken
  pub no_fault : feed.fault ≡ None
  -- each term that was answered took a byte at least
  pub counted : answered ≤ feed.offset

-- a call that says output: it answers that this failed only where the count of faults rose, the count never falls, and the file and the
-- counts of its calls are left
pub record TellsFaults {A : Type 0} (result : Result A Status) (old new : Shown) : Type 0 where
  pub output : IsErrOf result Output → Rose old.out_faults new.out_faults
  pub never_falls : old.out_faults ≤ new.out_faults
  pub file : new.file ≡ old.file
  pub disk_faults : new.disk_faults ≡ old.disk_faults
  pub reads : new.reads ≡ old.reads
