-- Commands: tuples whose first element is the client's name, an atom, and whose second is the name of an operation. The
-- operations are those of the dets reference manual; the shape of commands is this project's own.
use Rattle.std.specs.Prelude.{ℕ, cond, List, [], ◌∷◌, Option, Some, None, codes, option_map}
use Rattle.std.specs.Str.{bytes_eq}
use Rattle.term_model.specs.TermValue.{TermValue, atom, tuple, elements}

-- what a command asks for, with its argument as it stands
pub data Operation : Type 0 where
  -- {Client,open,Options}
  open_table : TermValue → Operation
  -- {Client,close}
  close_table : Operation
  -- {Client,insert,ObjectOrList}
  insert : TermValue → Operation
  -- {Client,lookup,Key}
  lookup : TermValue → Operation
  -- {Client,sync}
  sync : Operation

pub record Command : Type 0 where
  -- the characters of the client's name
  pub client : List ℕ
  pub operation : Operation

-- the characters of an atom
abbrev pub name_of : TermValue → Option (List ℕ)
name_of (atom name) = Some name
name_of other = None

-- the operation of a name without arguments
abbrev pub bare_operation : List ℕ → Option Operation
bare_operation name = cond (bytes_eq name (codes "close")) (Some close_table) (cond (bytes_eq name (codes "sync")) (Some sync) None)

-- of a name and one argument
abbrev pub operation_on : List ℕ → TermValue → Option Operation
operation_on name argument =
    cond (bytes_eq name (codes "open")) (Some (open_table argument))
    (cond (bytes_eq name (codes "insert")) (Some (insert argument))
    (cond (bytes_eq name (codes "lookup")) (Some (lookup argument)) None))

abbrev pub operation_of : List ℕ → List TermValue → Option Operation
operation_of name [] = bare_operation name
operation_of name (argument ∷ []) = operation_on name argument
operation_of name (first ∷ second ∷ rest) = None

abbrev pub command_by : Option (List ℕ) → Option (List ℕ) → List TermValue → Option Command
command_by (Some client) (Some name) arguments = option_map (λ operation. record { client = client; operation = operation }) (operation_of name arguments)
command_by client name arguments = None

abbrev pub command_in : List TermValue → Option Command
command_in [] = None
command_in (client ∷ []) = None
command_in (client ∷ name ∷ arguments) = command_by (name_of client) (name_of name) arguments

-- the command that a term is, if it is one whose operation is built
abbrev pub command_of : TermValue → Option Command
command_of (tuple parts) = command_in (elements parts)
command_of other = None
