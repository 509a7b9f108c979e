-- The history of a file and a list of commands: its states, the replies, and where all is on disk. This project's own.
use Rattle.std.specs.Prelude.{ℕ, zero, suc, Bool, true, false, cond, not, ◌&&◌, ◌||◌, List, [], ◌∷◌, map, length, Option}
use Rattle.std.specs.Option.{option_map_or}
use Rattle.term_model.specs.TermValue.{TermValue}
use Rattle.term_model.specs.Order.{is_same}
use Rattle.run_model.specs.Command.{Command, Operation, sync, command_of}
use Rattle.run_model.specs.Reply.{ok}
use Rattle.run_model.specs.State.{State, is_open, first_state}
use Rattle.run_model.specs.Step.{step}

-- the answers of a step to a list of terms, up to the first that has none
abbrev pub answers : {S : Type 0} → (S → TermValue → Option (TermValue × S)) → S → List TermValue → List TermValue
answers step s [] = []
answers {S} step s (term ∷ terms) = option_map_or (λ (served : TermValue × S). served.0 ∷ answers step served.1 terms) (step s term) []

-- ---- sync points

abbrev pub is_sync_operation : Operation → Bool
is_sync_operation sync = true
is_sync_operation other = false

abbrev pub is_sync : TermValue → Bool
is_sync command = option_map_or (λ (c : Command). is_sync_operation c.operation) (command_of command) false

-- a sync that is answered ok, and each command that closes the table
abbrev pub is_sync_point : State → TermValue → TermValue × State → Bool
is_sync_point before command answer = (is_sync command && is_same answer.0 ok) || (is_open before && not (is_open answer.1))

-- ---- the states

-- behind a command: its reply, the state, and whether it is a sync point
pub record Moment : Type 0 where
  pub reply : TermValue
  pub state : State
  pub is_synced : Bool

abbrev pub moment_of : State → TermValue → TermValue × State → Moment
moment_of before command answer = record { reply = answer.0; state = answer.1; is_synced = is_sync_point before command answer }

-- the moments behind the commands, up to the first that is not built
abbrev pub moments : State → List TermValue → List Moment
moments s [] = []
moments s (command ∷ commands) =
    option_map_or (λ (answer : TermValue × State). moment_of s command answer ∷ moments answer.1 commands) (step s command) []

pub record History : Type 0 where
  -- the state in front of the commands
  pub first : State
  pub moments : List Moment

abbrev pub history_from : State → List TermValue → History
history_from s commands = record { first = s; moments = moments s commands }

-- of the file that has these bytes
abbrev pub history : List ℕ → List TermValue → History
history file commands = history_from (first_state file) commands

abbrev pub replies : History → List TermValue
replies h = map (λ m. m.reply) h.moments

-- the state behind so many of the commands; behind more than there are it is the last one
abbrev pub state_behind : State → List Moment → ℕ → State
state_behind s moments zero = s
state_behind s [] (suc k) = s
state_behind s (m ∷ moments) (suc k) = state_behind m.state moments k

abbrev pub state_at : History → ℕ → State
state_at h k = state_behind h.first h.moments k

abbrev pub last_state : History → State
last_state h = state_at h (length h.moments)

-- whether a place among the commands, counted from 1, is a sync point; so is 0, in front of all
abbrev pub is_synced_behind : List Moment → ℕ → Bool
is_synced_behind moments zero = true
is_synced_behind [] (suc k) = false
is_synced_behind (m ∷ moments) (suc zero) = m.is_synced
is_synced_behind (m ∷ moments) (suc (suc k)) = is_synced_behind moments (suc k)

abbrev pub is_synced_at : History → ℕ → Bool
is_synced_at h k = is_synced_behind h.moments k

-- the last sync point at or before a place
abbrev pub last_sync : History → ℕ → ℕ
last_sync h zero = 0
last_sync h (suc k) = cond (is_synced_at h (suc k)) (suc k) (last_sync h k)
