-- What reading a byte between quotes answers.
use Rattle.std.specs.Prelude.{◌≡◌, ℕ, true, false, Bool, Result, Ok, Err}
use Rattle.text_model.specs.declared.fault.TextFault.{TextFault}
use Rattle.text_model.specs.declared.fault.TextFault.TheVariants.{Syntax, Memory}
use Rattle.text_model.specs.Grammar.{strict}
use Rattle.text_model.specs.Nest.{Nest, take}
use Rattle.text_model.specs.Reader.{Quotes, Led, in_lexeme, led_to, token_of}
use Rattle.term_text.specs.declared.lexeme.Quoted.{Quoted}
use Rattle.term_text.specs.LexemeView.{quoted_of}

-- The token goes on, the quote closes it, or a rule is broken.
abbrev pub Reads : Nest → (start : ℕ) → Quotes → Result Bool TextFault → Quoted → Led → Type 0
Reads n start q (Ok false) new led = led ≡ in_lexeme n (quoted_of new)
Reads n start q (Ok true) new led = led ≡ led_to (take strict n start (token_of q new.characters.text))
Reads n start q (Err (Syntax at why)) new led = led ≡ Err (at, why)
Reads n start q (Err Memory) new led = Unit {0}
