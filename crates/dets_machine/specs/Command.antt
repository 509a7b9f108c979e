-- What a command asks for, and what it holds.
use Rattle.std.specs.Prelude.{ℕ, ◌<◌, List, Option, Some, None}
use Rattle.dets_term.specs.TermValue.{TermValue, atom, depth}
use Rattle.dets_machine.specs.declared.command.Command.{Command}
use Rattle.dets_machine.specs.declared.command.Command.TheVariants.{Open, Insert, Lookup}
use Rattle.run_model.specs.InMemory.{Command as Asked, open_table, insert_one, look_up}

-- the command of the definitions that one of the code stands for
abbrev pub asked_by : Command → Asked
asked_by Open = open_table
asked_by (Insert object) = insert_one object.now
asked_by (Lookup key) = look_up key.now

-- the object of a command has fewer levels than this
abbrev pub IsBelow : ℕ → Command → Type 0
IsBelow levels Open = Unit {0}
IsBelow levels (Insert object) = depth object.now < levels
IsBelow levels (Lookup key) = Unit {0}
