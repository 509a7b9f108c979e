-- Commands in few words, as worked rows write them. This project's own.
use Prim.Native.String.{String}
use Rattle.std.specs.Prelude.{[], ◌∷◌}
use Rattle.term_model.specs.TermValue.{TermValue, nil}
use Rattle.term_model.specs.Written.{word, tuple_of, pair}

-- {Client,Op,Argument}
abbrev pub command : String → String → TermValue → TermValue
command client op argument = tuple_of (word client ∷ word op ∷ argument ∷ [])

-- {c,open,[]}
abbrev pub opens : TermValue
opens = command "c" "open" nil

-- {c,insert,Object}
abbrev pub inserts : TermValue → TermValue
inserts object = command "c" "insert" object

-- {c,lookup,Key}
abbrev pub looks_up : TermValue → TermValue
looks_up key = command "c" "lookup" key

-- {c,sync}
abbrev pub syncs : TermValue
syncs = pair (word "c") (word "sync")

-- {c,close}
abbrev pub closes : TermValue
closes = pair (word "c") (word "close")
