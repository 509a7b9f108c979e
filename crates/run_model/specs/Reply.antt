-- Replies to commands, which are those of the dets reference manual. An error and its reasons are this project's own.
use Prim.Native.String.{String}
use Rattle.std.specs.Prelude.{Bool, false, [], ◌∷◌}
use Rattle.term_model.specs.TermValue.{TermValue, tuple, nil, cons, chain}
use Rattle.term_model.specs.Order.{is_same}
use Rattle.term_model.specs.Written.{word}

-- ok
abbrev pub ok : TermValue
ok = word "ok"

-- {ok,table}
abbrev pub ok_table : TermValue
ok_table = tuple (chain (ok ∷ word "table" ∷ []) nil)

-- {error,Reason}
abbrev pub error : String → TermValue
error reason = tuple (chain (word "error" ∷ word reason ∷ []) nil)

-- whether a reply is an error
abbrev pub is_error : TermValue → Bool
is_error (tuple (cons first rest)) = is_same first (word "error")
is_error other = false
