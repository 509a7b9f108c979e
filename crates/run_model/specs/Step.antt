-- The step: the reply to a command and the state behind it, by the operations of the dets reference manual. It has the
-- cases of the commands that are built, with the refusals that they can meet, in their order; of others it says nothing.
use Rattle.std.specs.Prelude.{ℕ, Bool, true, false, cond, List, [], ◌∷◌, Option, Some, None, option_and_then}
use Rattle.term_model.specs.TermValue.{TermValue, tuple, nil, chain, elements}
use Rattle.table_model.specs.Table.{objects_of}
use Rattle.run_model.specs.Command.{Operation, open_table, close_table, insert, lookup, sync, Command, command_of}
use Rattle.run_model.specs.Reply.{ok}
use Rattle.run_model.specs.State.{File, OpenTable, State, closed, opened, is_filled}
use Rattle.run_model.specs.Opening.{default_options, opening}
use Rattle.run_model.specs.Changing.{grown, inserted}
use Rattle.run_model.specs.Closing.{is_named, flushed, after_close}

-- ---- arguments that are built

-- no options
abbrev pub is_empty_list : TermValue → Bool
is_empty_list nil = true
is_empty_list other = false

-- a tuple of at least one element
abbrev pub is_filled_tuple : TermValue → Bool
is_filled_tuple (tuple parts) = is_filled (elements parts)
is_filled_tuple other = false

-- ---- the step

-- while the table is not open
abbrev pub serve_closed : List ℕ → File → Operation → Option (TermValue × State)
serve_closed client file (open_table options) = cond (is_empty_list options) (Some (opening client default_options file)) None
serve_closed client file other = None

-- while it is open
abbrev pub serve_opened : List ℕ → OpenTable → Operation → Option (TermValue × State)
serve_opened client o (open_table options) = None
serve_opened client o close_table = cond (is_named client o.openings) (Some (ok, after_close client o)) None
serve_opened client o (insert objects) = cond (is_filled_tuple objects) (Some (inserted o (objects ∷ []))) None
serve_opened client o (lookup key) = Some (chain (objects_of o.table key) nil, opened (grown o))
serve_opened client o sync = Some (ok, opened (grown (flushed o)))

abbrev pub serve : State → Command → Option (TermValue × State)
serve (closed file) command = serve_closed command.client file command.operation
serve (opened o) command = serve_opened command.client o command.operation

-- the reply to a command and the next state; none where the command is not built in this state
abbrev pub step : State → TermValue → Option (TermValue × State)
step s command = option_and_then (serve s) (command_of command)
