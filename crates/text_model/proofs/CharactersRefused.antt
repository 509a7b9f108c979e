-- A character in quotes that may not be is refused with the byte that makes it one.
use Rattle.std.proofs.Common.{◌≡◌, ℕ, ◌+◌, ◌≤◌, inl, inr, true, List, [], ◌∷◌, ◌++◌, length, Some, ap, ◌∙◌, sym, subst, arith}
use Rattle.std.proofs.lemmas.Bool.{and_parts}
use Rattle.text_model.specs.declared.fault.TextWhy.{TextWhy}
use Rattle.text_model.specs.Characters.{each, is_octal, Escapes, IsCharacter}
use Rattle.text_model.specs.Nest.{Nest}
use Rattle.text_model.specs.Reader.{nothing, backslash, Quotes, in_quotes, may_have, quote_of, may_escape, begin_octal, outcome, faulty}
use Rattle.text_model.proofs.Comes.{IsGoing}
use Rattle.text_model.proofs.QuotesSteps.{between_quotes, pushes_refused}
use Rattle.text_model.proofs.EscapesRead.{letter_pushes, pair_pushes, braced_pushes}
use Rattle.text_model.proofs.CharactersRead.{itself_pushes, escape_goes}
use Rattle.text_model.proofs.RunSteps.{led_fails, led_outcome}

octal_refused : (n : Nest) (start : ℕ) (q : Quotes) (cs : List ℕ) (at : ℕ) (ds rest : List ℕ) (why : TextWhy) → IsGoing n → 1 ≤ length ds
    → each is_octal ds ≡ true → may_have n q cs ≡ Some why → outcome (between_quotes n start q cs backslash) at (ds ++ rest) ≡ faulty start why
octal_refused n start q cs at [] rest why going some pass may = absurd (omega arith)
octal_refused n start q cs at (x ∷ ds) rest why going some pass may =
    led_fails n (in_quotes start q cs backslash) at x start (ds ++ rest) why going
    (rw (and_parts (is_octal x) (each is_octal ds) pass).0 (ap (begin_octal n start q cs x) may))

escape_refused : (n : Nest) (start : ℕ) (q : Quotes) (cs : List ℕ) (c at : ℕ) (escape rest : List ℕ) (why : TextWhy) → IsGoing n
    → may_have n q cs ≡ Some why → Escapes c escape rest → outcome (between_quotes n start q cs backslash) at escape ≡ faulty start why
escape_refused n start q cs c at escape rest why going may (inl l) =
    pushes_refused n start q cs c backslash at escape rest why (letter_pushes n start q cs c at escape rest going l) may
escape_refused n start q cs c at escape rest why going may (inr (inl o)) =
    subst (λ l. outcome (between_quotes n start q cs backslash) at l ≡ faulty start why) (sym o.whole)
    (octal_refused n start q cs at o.digits rest why going o.some o.octal may)
escape_refused n start q cs c at escape rest why going may (inr (inr (inl p))) =
    pushes_refused n start q cs c backslash at escape rest why (pair_pushes n start q cs c at escape rest going p) may
escape_refused n start q cs c at escape rest why going may (inr (inr (inr b))) =
    pushes_refused n start q cs c backslash at escape rest why (braced_pushes n start q cs c at escape rest going b) may

-- where an escape may begin
pub character_refused : (n : Nest) (start : ℕ) (q : Quotes) (cs : List ℕ) (c at : ℕ) (bytes rest : List ℕ) (why : TextWhy) → IsGoing n
    → may_escape q cs ≡ true → may_have n q cs ≡ Some why → IsCharacter (quote_of q) c bytes rest
    → outcome (between_quotes n start q cs nothing) at bytes ≡ faulty start why
character_refused n start q cs c at bytes rest why going begins may (inl i) =
    pushes_refused n start q cs c nothing at bytes rest why (itself_pushes n start q cs c at bytes rest going i) may
character_refused n start q cs c at bytes rest why going begins may (inr (escape, e, is)) =
    subst (λ l. outcome (between_quotes n start q cs nothing) at l ≡ faulty start why) (sym e)
    (led_outcome n (in_quotes start q cs nothing) (in_quotes start q cs backslash) at 92 escape going (escape_goes n start at q cs begins)
    ∙ escape_refused n start q cs c (at + 1) escape rest why going may is)
