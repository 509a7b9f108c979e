-- The script of some bytes: the terms that stand in it one behind another, and what stands behind them. This project's
-- own, after the files of terms that `file:consult/1` of the Erlang manual reads.
use Rattle.std.specs.Prelude.{◌≡◌, ℕ, ◌+◌, Bool, true, false, List, [], ◌∷◌, ◌++◌, drop}
use Rattle.dets_term.specs.TermValue.{TermValue}
use Rattle.text_model.specs.declared.fault.TextWhy.{TextWhy}
use Rattle.text_model.specs.Sentence.{IsNext, HasNone}
use Rattle.text_model.specs.Faults.{IsBlankEnd, FaultOf}

-- what stands behind the last term
pub data Rest : Type 0 where
  -- white space and comments alone
  blank : Rest
  -- the input goes on, and what there is breaks no rule
  may_go_on : Rest
  -- a rule is broken, with the offset that is told
  fault : ℕ → TextWhy → Rest

-- A finished input has its fault. One that goes on has a fault where each continuation has this one.
abbrev pub IsFault : Bool → List ℕ → ℕ → TextWhy → Type 0
IsFault true bytes offset why = FaultOf bytes offset why
IsFault false bytes offset why = (more : List ℕ) → FaultOf (bytes ++ more) offset why

-- bytes in whose front no term stands; offsets are counted from the first of them
abbrev pub IsRest : Bool → List ℕ → Rest → Type 0
IsRest finished bytes blank = IsBlankEnd bytes
IsRest finished bytes may_go_on = (finished ≡ false) × (IsBlankEnd bytes → ⊥) × ((offset : ℕ) (why : TextWhy) → IsFault false bytes offset why → ⊥)
IsRest finished bytes (fault offset why) = IsFault finished bytes offset why

-- what stands in front of some bytes
pub data Answer : Type 0 where
  -- a term, and the number of bytes up to and with its full stop
  a_term : TermValue → ℕ → Answer
  no_term : Rest → Answer

abbrev pub IsAnswer : Bool → List ℕ → Answer → Type 0
IsAnswer finished bytes (a_term t taken) = IsNext finished bytes t taken
IsAnswer finished bytes (no_term rest) = HasNone finished bytes × IsRest finished bytes rest

-- what is behind bytes at an offset, with its offset counted from their first one
abbrev pub moved : ℕ → Rest → Rest
moved n blank = blank
moved n may_go_on = may_go_on
moved n (fault offset why) = fault (n + offset) why

-- a term, and the number of bytes of its text with its full stop
pub record Placed : Type 0 where
  pub term : TermValue
  pub bytes : ℕ

-- all terms of the bytes, in order, and the rest
abbrev pub IsScript : Bool → List ℕ → List Placed → Rest → Type 0
IsScript finished bytes [] rest = IsAnswer finished bytes (no_term rest)
IsScript finished bytes (first ∷ others) rest =
    IsNext finished bytes first.term first.bytes
    × ((behind : Rest) × (rest ≡ moved first.bytes behind) × IsScript finished (drop first.bytes bytes) others behind)
