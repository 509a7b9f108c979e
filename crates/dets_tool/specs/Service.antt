-- What is done with the terms of an input: the answer to each, and the bytes that are put for an answer. This project's own.
use Rattle.std.specs.Prelude.{ℕ, List, ◌++◌, Option, Some, codes}
use Rattle.dets_term.specs.TermValue.{TermValue}
use Rattle.etf_model.specs.Canonical.{spelled}
use Rattle.text_model.specs.Printed.{printed}
use Rattle.run_model.specs.InMemory.{State, first_state, step as reply_step}

-- over the states between two terms
pub record Service (S : Type 0) : Type 0 where
  pub first : S
  -- the answer to a term and the state behind it; none where the term is a command that is not built
  pub step : S → TermValue → Option (TermValue × S)
  -- what is put for an answer
  pub line : TermValue → List ℕ

-- the printed form of a term, a full stop and a line end
abbrev pub printed_line : TermValue → List ℕ
printed_line t = printed t ++ codes ".\n"

-- a term is its own answer
abbrev pub itself : Unit {0} → TermValue → Option (TermValue × Unit {0})
itself s t = Some (t, s)

-- each term is a command, and its reply is printed
abbrev pub serving : Service State
serving = record { first = first_state; step = reply_step; line = printed_line }

-- each term is printed
abbrev pub printing : Service (Unit {0})
printing = record { first = tt; step = itself; line = printed_line }

-- each term is spelled
abbrev pub encoding : Service (Unit {0})
encoding = record { first = tt; step = itself; line = spelled }
