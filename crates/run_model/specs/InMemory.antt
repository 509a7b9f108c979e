-- What the program serves so far: a set whose key stands in front, which is kept in memory and not in a file. It opens
-- once, inserts one object and looks up a key; of other commands this step says nothing.
use Rattle.std.specs.Prelude.{ℕ, Bool, true, false, cond, ◌&&◌, List, [], ◌∷◌, Option, Some, None, codes, option_and_then, refl}
use Rattle.std.specs.Str.{bytes_eq}
use Rattle.std.specs.Coded.{Coded, code_by, coded×, coded_bool}
use Rattle.term_model.specs.TermValue.{TermValue, atom, tuple, nil, chain, elements}
use Rattle.term_model.specs.declared.kind.Kind.TheVariants.{Set}
use Rattle.table_model.specs.Table.{Table, empty_table, insert_object, objects_of}
use Rattle.table_model.specs.TableCode.{coded_table}
use Rattle.run_model.specs.Reply.{ok, ok_table}
use Rattle.run_model.specs.Step.{is_empty_list, is_filled_tuple}

-- a command that is served, with its argument
pub data Command : Type 0 where
  -- {Client,open,[]}
  open_table : Command
  -- {Client,insert,Object}
  insert_one : TermValue → Command
  -- {Client,lookup,Key}
  look_up : TermValue → Command

-- the command of an operation and its argument
abbrev pub operation : List ℕ → TermValue → Option Command
operation name argument =
    cond (bytes_eq name (codes "open") && is_empty_list argument) (Some open_table)
    (cond (bytes_eq name (codes "insert") && is_filled_tuple argument) (Some (insert_one argument))
    (cond (bytes_eq name (codes "lookup")) (Some (look_up argument)) None))

-- the same of a client and an operation that may be no atoms
abbrev pub of_three_parts : TermValue → TermValue → TermValue → Option Command
of_three_parts (atom client) (atom name) argument = operation name argument
of_three_parts client name argument = None

abbrev pub of_parts : List TermValue → Option Command
of_parts [] = None
of_parts (a ∷ []) = None
of_parts (a ∷ b ∷ []) = None
of_parts (client ∷ name ∷ argument ∷ []) = of_three_parts client name argument
of_parts (a ∷ b ∷ c ∷ d ∷ more) = None

-- the command that a term is, if it is one that is served
abbrev pub command_of : TermValue → Option Command
command_of (tuple parts) = of_parts (elements parts)
command_of other = None

pub record State : Type 0 where
  -- it stays where no client has it open
  pub table : Table
  pub is_open : Bool

abbrev pub coded_state : Coded State
coded_state = code_by (Table × Bool) (coded× coded_table coded_bool) (λ s. (s.table, s.is_open)) (λ p. record { table = p.0; is_open = p.1 }) (λ _. refl)

abbrev pub first_state : State
first_state = record { table = empty_table Set 1; is_open = false }

-- the reply and the next state; none where the command is not served in this state
abbrev pub serve : State → Command → Option (TermValue × State)
serve s open_table = cond s.is_open None (Some (ok_table, record s { is_open = true }))
serve s (insert_one object) = cond s.is_open (Some (ok, record s { table = insert_object s.table object })) None
serve s (look_up k) = cond s.is_open (Some (chain (objects_of s.table k) nil, s)) None

abbrev pub step : State → TermValue → Option (TermValue × State)
step s term = option_and_then (serve s) (command_of term)

-- the state after the exit of all clients
abbrev pub after_exit : State → State
after_exit s = record s { is_open = false }
