-- The sentences of a script: the text of a term with its full stop. This project's own, after the files of terms that
-- `file:consult/1` of the Erlang manual reads.
use Rattle.std.specs.Prelude.{◌≡◌, ℕ, ◌+◌, ◌≤◌, ◌^◌, Bool, true, false, cond, ◌||◌, ◌==◌, List, [], ◌∷◌, length, Option, Some, None}
use Rattle.dets_term.specs.TermValue.{TermValue}
use Rattle.text_model.specs.Token.{Token}
use Rattle.text_model.specs.Spelling.{is_white, Skips, Spells}
use Rattle.text_model.specs.Grammar.{strict, IsText}

-- a text of a term and its full stop, in front of the rest
abbrev pub IsSentence : TermValue → List ℕ → List ℕ → Type 0
IsSentence t bytes rest = (tokens : List Token) × Spells tokens bytes rest × IsText strict t tokens

-- whether these bytes, behind a full stop, make it an end; none where the next piece decides
abbrev pub ends : Bool → List ℕ → Option Bool
ends finished [] = cond finished (Some true) None
ends finished (x ∷ xs) = Some (is_white x || x == 37)

-- a full stop stands among so many bytes from a term's first token on
abbrev pub longest : ℕ
longest = 2 ^ 24

-- White space and comments, and then some bytes that begin with neither: where a text begins.
pub record BeginsAt (bytes at : List ℕ) : Type 0 where
  pub skips : Skips bytes at
  pub text : ends false at ≡ Some false

-- so many bytes from the front are a sentence that ends there, and is not too long
pub record IsNext (finished : Bool) (bytes : List ℕ) (t : TermValue) (taken : ℕ) : Type 0 where
  pub rest : List ℕ
  pub at : List ℕ
  pub there : length bytes ≡ taken + length rest
  pub sentence : IsSentence t bytes rest
  pub begins : BeginsAt bytes at
  pub within : length at ≤ length rest + longest
  pub end : ends finished rest ≡ Some true

-- no term stands in front
abbrev pub HasNone : Bool → List ℕ → Type 0
HasNone finished bytes = (t : TermValue) (taken : ℕ) → IsNext finished bytes t taken → ⊥
