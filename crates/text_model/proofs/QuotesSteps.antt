-- The bytes of a character between quotes, the last of which ends it.
use Rattle.std.proofs.Common.{◌≡◌, ℕ, ◌+◌, List, [], ◌∷◌, ◌++◌, length, Some, None, ap, ◌∙◌, arith}
use Rattle.text_model.specs.declared.fault.TextWhy.{TextWhy}
use Rattle.text_model.specs.Nest.{Nest}
use Rattle.text_model.specs.Reader.{Partial, nothing, Quotes, in_quotes, State, may_have, pushed, push, in_character, quotes_led, outcome, faulty}
use Rattle.text_model.proofs.Comes.{IsGoing}
use Rattle.text_model.proofs.Runs.{run, run_by}
use Rattle.text_model.proofs.RunSteps.{state_in, run_led, fails_outcome, Reads}

-- between quotes, behind whole characters and the first bytes of the next one
abbrev pub between_quotes : Nest → ℕ → Quotes → List ℕ → Partial → State
between_quotes n start q cs p = state_in n (in_quotes start q cs p)

-- the bytes of a character in front of the rest, the last of which ends it
pub record Pushes (n : Nest) (start : ℕ) (q : Quotes) (cs : List ℕ) (c : ℕ) (p : Partial) (at : ℕ) (bytes rest : List ℕ) : Type 0 where
  pub last : ℕ
  pub offset : at + length bytes ≡ last + 1 + length rest
  pub same : run (between_quotes n start q cs p) at bytes ≡ run_by last (push n start q cs c) (λ s. run s (last + 1) rest)

pub pushes_last : (n : Nest) (start : ℕ) (q : Quotes) (cs : List ℕ) (c : ℕ) (p : Partial) (at x : ℕ) (rest : List ℕ) → IsGoing n
    → quotes_led n start at q cs p x ≡ push n start q cs c → Pushes n start q cs c p at (x ∷ rest) rest
pushes_last n start q cs c p at x rest going e = record {
  last = at;
  offset = omega arith;
  same = run_led n (in_quotes start q cs p) at x rest (push n start q cs c) going e;
}

pub pushes_more : (n : Nest) (start : ℕ) (q : Quotes) (cs : List ℕ) (c : ℕ) (p next : Partial) (at x : ℕ) (bytes rest : List ℕ) → IsGoing n
    → quotes_led n start at q cs p x ≡ in_character n start q cs next → Pushes n start q cs c next (at + 1) bytes rest
    → Pushes n start q cs c p at (x ∷ bytes) rest
pushes_more n start q cs c p next at x bytes rest going e m = record {
  last = m.last;
  offset = omega (arith, m.offset);
  same = run_led n (in_quotes start q cs p) at x bytes (in_character n start q cs next) going e ∙ m.same;
}

-- where it may be, the character is one more of the whole ones
pub pushes_reads : (n : Nest) (start : ℕ) (q : Quotes) (cs : List ℕ) (c : ℕ) (p : Partial) (at : ℕ) (bytes rest : List ℕ)
    → Pushes n start q cs c p at bytes rest → may_have n q cs ≡ None
    → Reads (between_quotes n start q cs p) at bytes (between_quotes n start q (cs ++ c ∷ []) nothing) rest
pushes_reads n start q cs c p at bytes rest m may = record {
  to = m.last + 1;
  offset = m.offset;
  same = m.same ∙ ap (λ o. run_by m.last (pushed n start q cs c o) (λ s. run s (m.last + 1) rest)) may;
}

-- and where not, it is refused
pub pushes_refused : (n : Nest) (start : ℕ) (q : Quotes) (cs : List ℕ) (c : ℕ) (p : Partial) (at : ℕ) (bytes rest : List ℕ) (why : TextWhy)
    → Pushes n start q cs c p at bytes rest → may_have n q cs ≡ Some why → outcome (between_quotes n start q cs p) at bytes ≡ faulty start why
pushes_refused n start q cs c p at bytes rest why m may =
    fails_outcome (between_quotes n start q cs p) at m.last start why bytes
    (m.same ∙ ap (λ o. run_by m.last (pushed n start q cs c o) (λ s. run s (m.last + 1) rest)) may)
